-- What the contracts cite.
pub mod Listed
