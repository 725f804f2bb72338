pub mod Classes
pub mod Hexes
pub mod Levels
pub mod Verdicts
