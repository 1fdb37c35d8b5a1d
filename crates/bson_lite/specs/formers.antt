pub mod boxed
pub mod document
pub mod list
