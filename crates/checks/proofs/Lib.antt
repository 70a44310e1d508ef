pub mod ReplyLaws
pub mod Unique
