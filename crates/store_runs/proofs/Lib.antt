mod Accepting
mod Counting
mod Observing
mod Running
