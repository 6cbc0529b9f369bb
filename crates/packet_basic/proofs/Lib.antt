pub mod Payloads
pub mod Rooms
pub mod Cases
