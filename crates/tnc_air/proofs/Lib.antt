pub mod Packets
pub mod Kept
pub mod Rebuilt
pub mod Orders
