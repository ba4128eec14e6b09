pub mod Cutting
pub mod Lining
pub mod Writing
pub mod Homeward
pub mod Clearing
pub mod Session
pub mod Opened
pub mod Spelled
