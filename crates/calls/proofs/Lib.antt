-- A script that has been read under prices: its report, its figures, its run.
pub mod Asking
pub mod Counts
pub mod Judging
pub mod Loaded
pub mod Runs
pub mod Stores
pub mod Tables
pub mod Laws
