pub mod Stored
pub mod Cases
pub mod Outcomes
pub mod Ring
pub mod Builders
pub mod Kept
