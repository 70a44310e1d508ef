pub mod Refusing
pub mod Shapes
pub mod Accepting
