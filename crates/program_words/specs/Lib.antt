-- The words of a program's arguments and input: numbers, picks, lists.
pub mod Words
pub mod Lists
pub mod Picks
