pub mod LabelTable
pub mod OldDeployment
pub mod Retry
pub mod inside
