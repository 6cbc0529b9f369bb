pub mod Escape
pub mod Unescape
pub mod Scan
pub mod Read
pub mod Frame
pub mod Stream
pub mod Build
pub mod Promises
