pub mod KeptReplies
