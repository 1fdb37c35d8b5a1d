mod Failing
pub mod Keeping
pub mod Merging
mod Standing
