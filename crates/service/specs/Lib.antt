pub mod Deeds
pub mod View
pub mod Lasting
pub mod Whole
