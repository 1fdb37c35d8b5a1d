pub mod BulkBatches
pub mod OwnOps
