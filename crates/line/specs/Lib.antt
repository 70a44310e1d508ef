pub mod Lines
pub mod Fields
