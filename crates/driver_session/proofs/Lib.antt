pub mod IdDraws
pub mod Ids
pub mod LentSessions
pub mod PoolTells
pub mod UnchangedStore
