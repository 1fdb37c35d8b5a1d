-- Lemmas that the law of operations needs.
pub mod BulkReplies
pub mod CursorPages
pub mod ResultRows
pub mod ToldResults
