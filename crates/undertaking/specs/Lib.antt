pub mod Runs
pub mod Requests
pub mod Obeying
pub mod Lasting
pub mod Undertaking
pub mod View
