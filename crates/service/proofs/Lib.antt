pub mod Unfolding
pub mod Freshness
pub mod Related
pub mod Coming
pub mod Lasting
pub mod Standing
pub mod Turning
