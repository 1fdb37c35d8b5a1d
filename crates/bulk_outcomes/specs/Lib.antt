pub mod BulkResults
pub mod PartialResults
pub mod Status
pub mod lawful
