mod Fitting
pub mod Utf8
