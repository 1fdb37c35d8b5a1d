-- Lemmas that the law of operations needs.
pub mod AlonePages
pub mod InsertRead
pub mod ReplyNumbers
pub mod Statements
