pub mod PageLaws
pub mod FormLaws
pub mod PageSteps
pub mod PutSteps
pub mod PageTheorems
pub mod TurnTheorems
pub mod Examples
