pub mod Steps
pub mod Allowing
