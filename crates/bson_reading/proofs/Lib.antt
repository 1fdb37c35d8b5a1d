pub mod Breaking
pub mod Found
pub mod Places
pub mod Refusing
pub mod Sound
pub mod Steps
pub mod Takes
pub mod Wholeness
