pub mod Levels
pub mod Tags
