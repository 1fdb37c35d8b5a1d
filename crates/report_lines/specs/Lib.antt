pub mod Distinct
pub mod FailedWrites
pub mod Lines
pub mod Words
