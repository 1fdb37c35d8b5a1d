pub mod Calls
pub mod Limits
pub mod Models
pub mod Options
pub mod Parts
pub mod Plans
pub mod ScheduleSteps
pub mod Script
