pub mod Announces
