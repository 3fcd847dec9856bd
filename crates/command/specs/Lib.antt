pub mod Words
pub mod Grammar
pub mod Signs
pub mod Decimals
pub mod Joints
pub mod Splits
pub mod Rows
