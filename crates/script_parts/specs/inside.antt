pub mod Codes
pub mod Fit
pub mod Members
pub mod Numbers
pub mod Sizes
pub mod Tree
