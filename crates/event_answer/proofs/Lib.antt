pub mod Body
pub mod Numbers
