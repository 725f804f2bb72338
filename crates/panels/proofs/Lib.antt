pub mod Alike
pub mod Columns
pub mod Drawn
pub mod Firsts
pub mod Outward
pub mod Stacked
