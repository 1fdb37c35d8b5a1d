pub mod Concerns
pub mod FindOptions
pub mod Models
