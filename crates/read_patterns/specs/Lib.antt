pub mod Meeting
pub mod Effects
