pub mod Observer
pub mod Order
pub mod Runs
pub mod Laws
