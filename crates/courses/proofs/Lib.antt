pub mod Blocks
pub mod Least
pub mod Parts
