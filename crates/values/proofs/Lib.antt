pub mod Wide
pub mod Results
