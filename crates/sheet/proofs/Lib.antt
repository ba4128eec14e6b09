pub mod Whole
pub mod Reasoned
pub mod Numbers
pub mod Justified
pub mod Laid
pub mod Readable
pub mod Written
pub mod Gathered
