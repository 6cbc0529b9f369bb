pub mod Numbers
pub mod Blocks
pub mod Opens
pub mod Whole
pub mod Turns
