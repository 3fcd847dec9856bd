mod Backward
mod Order
mod Searches
mod Writes
