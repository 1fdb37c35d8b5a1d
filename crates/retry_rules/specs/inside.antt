-- What the functions that no other crate calls say of themselves.
pub mod OldDeployment
pub mod Retry
