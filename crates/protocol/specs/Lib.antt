pub mod Lsf
pub mod Kinds
pub mod Basic
pub mod Promises
