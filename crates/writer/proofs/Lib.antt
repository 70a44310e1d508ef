pub mod Theorems
pub mod RoundTrip
