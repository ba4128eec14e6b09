pub mod Play
pub mod Shown
pub mod Strands
pub mod Stands
