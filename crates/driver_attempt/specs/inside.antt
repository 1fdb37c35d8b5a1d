pub mod AttemptExchanges
pub mod Attempting
pub mod Executing
pub mod Failures
pub mod Holding
pub mod JoinedBodies
