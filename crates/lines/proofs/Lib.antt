pub mod Walks
pub mod Answered
