mod Places
mod Removal
