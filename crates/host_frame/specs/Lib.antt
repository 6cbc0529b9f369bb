pub mod Frame
pub mod Promises
pub mod Data
pub mod Setting
