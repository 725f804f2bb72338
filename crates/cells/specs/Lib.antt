pub mod Runs
pub mod Values
pub mod Cuttings
pub mod Contents
pub mod Texts
