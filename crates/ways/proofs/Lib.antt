pub mod Firsts
pub mod Tests
pub mod Counts
pub mod Rounds
pub mod Exactness
pub mod Nearest
pub mod Along
pub mod InPlace
