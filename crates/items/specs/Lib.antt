pub mod Typed
pub mod Size
