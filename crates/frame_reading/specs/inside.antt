pub mod PlainInserts
pub mod ReadFrames
