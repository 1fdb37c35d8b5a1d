-- An operation whose part of the schedule is gentle ends well: it was done, or memory ran out.
pub mod Course
pub mod Ends
pub mod Losses
pub mod Questions
pub mod Sessions
