-- Laws of the season sheet, and examples.
pub mod GroupsExact
pub mod Examples
pub mod RefusedAddUp
