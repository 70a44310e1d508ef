pub mod Mapping
pub mod Courses
pub mod Collisions
pub mod Extents
pub mod Rules
pub mod Verdicts
pub mod Rooms
pub mod Searches
