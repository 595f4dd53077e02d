pub mod Planned
pub mod Answered
pub mod Published
