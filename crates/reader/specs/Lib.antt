-- The reader: a file to its lines, its rows and the table of them.
pub mod Rows
pub mod Lines
pub mod Head
pub mod Open
pub mod Read
