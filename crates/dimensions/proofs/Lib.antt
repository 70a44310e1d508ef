pub mod Zeros
pub mod Padding
pub mod Designs
pub mod Records
pub mod Meanings
pub mod Rules
