pub mod Deltas
