mod FailureOrder
pub mod IdSets
