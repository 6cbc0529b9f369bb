pub mod Calls
pub mod Promises
pub mod Queues
pub mod QueueRule
pub mod Determined
