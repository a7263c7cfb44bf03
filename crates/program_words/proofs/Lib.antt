-- The words of a program's arguments and input: numbers, picks, lists.
pub mod Slices
pub mod Bits
pub mod Digits
pub mod Words
pub mod Drawn
pub mod Examples
pub mod ListsLaws
pub mod Pieces
pub mod Prices
pub mod ListWords
