pub mod InsertAnswers
pub mod InsertFronts
pub mod InsertLaw
pub mod InsertLawful
pub mod InsertSpec
pub mod inside
pub mod lawful
