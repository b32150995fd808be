pub mod Classes
pub mod Runs
pub mod Quotes
