pub mod Links
pub mod Numbers
pub mod Looking
pub mod Keeping
