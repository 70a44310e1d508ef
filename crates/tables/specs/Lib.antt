pub mod Tables
pub mod Columns
pub mod Rows
