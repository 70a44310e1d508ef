pub mod Refusals
pub mod Record
pub mod Limits
pub mod Numbers
