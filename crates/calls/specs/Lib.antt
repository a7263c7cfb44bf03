-- A script that has been read under prices: its report, its figures, its run.
pub mod First
pub mod Held
pub mod Told
pub mod Figures
