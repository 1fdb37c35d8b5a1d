pub mod Pool
pub mod Session
pub mod StoreTells
pub mod inside
