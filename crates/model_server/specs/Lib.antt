pub mod Judged
pub mod Meets
pub mod ModelAddress
pub mod ModelState
pub mod Transient
pub mod Undoing
