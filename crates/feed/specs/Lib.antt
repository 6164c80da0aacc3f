pub mod Totals
pub mod Blocks
pub mod Runs
