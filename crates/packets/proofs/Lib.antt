pub mod Bounds
pub mod Rooms
pub mod Decoding
pub mod Cases
pub mod Chunks
pub mod Kept
