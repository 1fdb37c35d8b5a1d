pub mod BulkFronts
pub mod BulkOps
pub mod BulkWrites
pub mod Distinct
pub mod inside
