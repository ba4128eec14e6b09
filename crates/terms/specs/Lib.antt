pub mod Refusals
pub mod Durations
pub mod Ranges
pub mod View
