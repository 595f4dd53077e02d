pub mod Ordering
pub mod Assignment
pub mod Exchange
pub mod Steps
