pub mod Bits
pub mod Degrees
pub mod Texts
