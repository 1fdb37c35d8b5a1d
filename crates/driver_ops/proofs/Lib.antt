pub mod CursorCommands
pub mod Entries
pub mod Frames
pub mod Indexes
pub mod PlainOptions
pub mod PlainReading
pub mod ResponseReading
