pub mod Column
pub mod Scene
pub mod Gate
pub mod Words
pub mod Recall
pub mod Time
pub mod View
