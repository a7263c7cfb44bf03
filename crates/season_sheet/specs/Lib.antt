-- The season: names, cues, groups, and the sheet of many files.
pub mod Kept
pub mod Fired
pub mod Firsts
pub mod Figures
pub mod Holds
