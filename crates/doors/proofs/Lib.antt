pub mod DoorSteps
pub mod CellLaws
pub mod Answered
