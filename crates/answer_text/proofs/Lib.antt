-- What is printed of a script file: its report, its run.
pub mod ReportsLaws
pub mod Answers
pub mod RunsLaws
pub mod StepTexts
