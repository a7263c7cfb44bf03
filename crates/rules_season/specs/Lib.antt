-- The season sheet of many files.
pub mod Season
