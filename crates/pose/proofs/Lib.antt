pub mod Wholes
pub mod Patterns
