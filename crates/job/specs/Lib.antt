pub mod Text
pub mod Jobs
pub mod OrderLine
pub mod Replies
pub mod Words
pub mod View
pub mod Written
