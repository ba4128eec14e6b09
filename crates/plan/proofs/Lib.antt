pub mod Counts
pub mod Searches
pub mod Busiest
pub mod Judged
pub mod Lined
pub mod Formed
pub mod Tests
pub mod Standing
