pub mod Ledgers
pub mod Reports
pub mod Posts
pub mod Steps
pub mod Answer
pub mod Kept
pub mod Entries
