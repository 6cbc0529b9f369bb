pub mod Checked
pub mod Placed
