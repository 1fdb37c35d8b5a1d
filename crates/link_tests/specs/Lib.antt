pub mod AbortFrame
