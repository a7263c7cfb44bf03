-- What the contracts cite.
pub mod Asked
