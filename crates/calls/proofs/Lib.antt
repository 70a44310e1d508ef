pub mod BytesLaws
pub mod Unique
