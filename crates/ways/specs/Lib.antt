pub mod Way
pub mod Table
pub mod View
