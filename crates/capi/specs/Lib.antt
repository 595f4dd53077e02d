pub mod Outcomes
pub mod Findings
pub mod Files
pub mod Steps
pub mod Played
