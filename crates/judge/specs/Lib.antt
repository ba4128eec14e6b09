pub mod Judging
pub mod Finding
pub mod Figures
pub mod Reasons
pub mod View
pub mod Verdict
