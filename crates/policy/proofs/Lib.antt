pub mod Past
pub mod Lawfulness
