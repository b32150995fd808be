pub mod Effects
pub mod Holding
pub mod Serving
pub mod Worlds
