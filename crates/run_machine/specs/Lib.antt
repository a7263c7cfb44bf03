-- A script in a table that may be run, one step of the machine over it, its rows by their numbers, and the limits that it keeps.
pub mod Rows
pub mod Steps
pub mod Limits
