pub mod Entries
pub mod Injective
pub mod Totals
