pub mod IndexLaws
pub mod PlainBytes
pub mod PlainInserts
pub mod ReadLaws
pub mod WriteLaws
