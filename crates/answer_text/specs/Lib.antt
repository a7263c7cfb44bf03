-- What is printed of a script file: its report, its run.
pub mod Printed
pub mod Adding
pub mod Steps
pub mod Texts
