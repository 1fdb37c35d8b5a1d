pub mod Ended
pub mod Report
pub mod Streamed
