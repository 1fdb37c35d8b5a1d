-- Single writes, whatever they do.
pub mod Entries
pub mod Readiness
pub mod WriteOperations
pub mod WritesMade
