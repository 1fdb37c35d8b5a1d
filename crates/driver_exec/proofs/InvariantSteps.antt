-- What stands between the operations of one client stands after one more, and its entries do where it was done.
pub mod CamePages
pub mod Leaving
pub mod Sends
pub mod Standing
