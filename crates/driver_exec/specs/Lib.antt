pub mod BetweenCalls
pub mod Gentle
pub mod Keeping
pub mod OperationCauses
pub mod Reporting
pub mod Resending
