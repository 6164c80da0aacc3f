pub mod Turns
pub mod Sheets
pub mod Tells
