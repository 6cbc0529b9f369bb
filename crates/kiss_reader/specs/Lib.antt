pub mod Meaning
pub mod Reader
pub mod Front
pub mod Inside
pub mod Promises
