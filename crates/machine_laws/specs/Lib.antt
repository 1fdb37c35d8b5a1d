pub mod Steady
pub mod Events
pub mod Valid
pub mod ErrorAnswers
pub mod Ended
pub mod Fresh
