pub mod Limits
pub mod Sites
pub mod Formulas
pub mod Faults
pub mod Worked
