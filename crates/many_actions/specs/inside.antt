-- What the functions that no other crate calls say of themselves.
pub mod Batches
pub mod Taking
