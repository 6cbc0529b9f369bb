pub mod Ring
pub mod Rests
pub mod Walked
pub mod Added
pub mod Held
pub mod Kept
pub mod Wrong
