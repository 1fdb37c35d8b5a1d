-- Lemmas that the law of operations needs.
pub mod CountReplies
pub mod FindReplies
pub mod OneWriteReplies
pub mod StatementReading
