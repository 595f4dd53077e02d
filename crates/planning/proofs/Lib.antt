pub mod Answering
pub mod OneAnswer
pub mod Analyses
