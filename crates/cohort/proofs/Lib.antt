pub mod Walks
pub mod Least
