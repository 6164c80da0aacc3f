pub mod Rows
pub mod Posting
pub mod Order
pub mod Claims
