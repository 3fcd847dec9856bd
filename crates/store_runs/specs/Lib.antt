pub mod Ledger
pub mod Observer
pub mod Plain
