pub mod Whole
pub mod Printing
pub mod Leading
pub mod Rows
pub mod Coordinates
pub mod Writers
