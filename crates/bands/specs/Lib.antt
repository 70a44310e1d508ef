pub mod Bands
pub mod Turns
