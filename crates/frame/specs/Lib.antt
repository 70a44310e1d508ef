pub mod Frames
pub mod Framing
