-- What the run takes for the value of an expression.
pub mod Results
