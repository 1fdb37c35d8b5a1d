pub mod CountingIds
pub mod FakeAddress
pub mod FakeLink
pub mod MemClock
pub mod MemStreams
