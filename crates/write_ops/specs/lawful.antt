-- Lemmas that the law of operations needs.
pub mod InsertFields
pub mod InsertReplies
