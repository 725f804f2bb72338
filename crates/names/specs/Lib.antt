pub mod Asked
pub mod Lists
pub mod Texts
