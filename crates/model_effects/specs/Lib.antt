pub mod Changes
pub mod Displacing
pub mod Does
pub mod Parts
pub mod Seen
pub mod Waiting
