pub mod Radio
pub mod Box
pub mod Promises
