pub mod Joined
pub mod Fitting
