pub mod Cell
pub mod Cells
pub mod Answers
pub mod Feeds
pub mod Fed
