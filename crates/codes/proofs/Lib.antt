pub mod Every
pub mod Tables
pub mod Alike
pub mod Bytes
