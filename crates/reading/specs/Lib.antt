-- The words of a line: found in the text, and asked in order, expressions too.
pub mod Answers
pub mod Asking
pub mod Words
pub mod Meaning
