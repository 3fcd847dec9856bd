mod Fresh
mod Made
pub mod Lines
pub mod Utf8
