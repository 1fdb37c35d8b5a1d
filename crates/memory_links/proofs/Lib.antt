pub mod CountedIds
pub mod NewestOut
pub mod Readings
