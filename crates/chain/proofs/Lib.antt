mod Fresh
mod Links
mod Steps
