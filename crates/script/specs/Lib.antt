pub mod Running
pub mod Answers
pub mod Sessions
pub mod Scripts
