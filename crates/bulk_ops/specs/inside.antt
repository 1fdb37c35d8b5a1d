-- What the functions that no other crate calls say of themselves.
pub mod BulkResults
pub mod SeenFlags
