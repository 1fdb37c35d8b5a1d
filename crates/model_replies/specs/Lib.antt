pub mod KeptReplies
pub mod SomeField
