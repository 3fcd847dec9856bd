mod Letters
mod Readings
