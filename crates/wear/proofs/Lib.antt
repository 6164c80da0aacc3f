pub mod TurnLaws
pub mod SheetLaws
pub mod TellLaws
pub mod Examples
