-- The season: names, cues, groups, and the sheet of many files.
pub mod NamesLaws
pub mod Lines
pub mod CuesLaws
pub mod GroupsLaws
pub mod SheetLaws
pub mod Texts
pub mod FilesLaws
