pub mod ExchangeLaws
pub mod InterruptLaws
pub mod StillLaws
pub mod TransientLaws
pub mod UndoLaws
pub mod WaitingLaws
