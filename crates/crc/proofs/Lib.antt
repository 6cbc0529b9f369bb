pub mod Linear
pub mod Lookup
pub mod Run
pub mod Kept
