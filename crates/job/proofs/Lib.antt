pub mod Widths
pub mod Joined
pub mod Settled
pub mod Played
pub mod OrderLine
