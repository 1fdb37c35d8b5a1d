pub mod CallByCall
pub mod CallMaking
pub mod CallsLeft
pub mod MainTheorem
pub mod Standing
