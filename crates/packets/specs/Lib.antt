pub mod Frames
pub mod Queue
pub mod Inside
pub mod Promises
