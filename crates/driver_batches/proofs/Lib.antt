pub mod Greedy
pub mod Keeping
