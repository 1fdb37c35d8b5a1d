pub mod FindCommand
pub mod FindLaw
pub mod StatementCommand
pub mod StatementLaw
