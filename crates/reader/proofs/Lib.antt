pub mod Places
pub mod Piecing
pub mod Laying
pub mod Replying
pub mod Theorems
pub mod Longest
