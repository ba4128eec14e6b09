pub mod First
pub mod Tests
pub mod Sets
