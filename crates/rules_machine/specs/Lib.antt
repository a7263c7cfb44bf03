-- The run as a machine over the rows.
pub mod RowMachine
