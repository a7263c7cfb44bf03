-- What the contracts of the state cite.
pub mod Numbers
