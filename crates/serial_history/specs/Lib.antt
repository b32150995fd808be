pub mod Changing
pub mod Committing
pub mod Marks
pub mod Replacing
pub mod States
pub mod Stopping
