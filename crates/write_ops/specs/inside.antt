-- What the functions that no other crate calls say of themselves.
pub mod InsertAnswers
pub mod InsertFronts
