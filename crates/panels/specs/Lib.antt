pub mod Grids
pub mod Laws
pub mod Pictures
pub mod Rows
pub mod Ruled
pub mod Screens
pub mod Stacks
