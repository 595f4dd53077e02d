pub mod Fields
pub mod Format
pub mod Layout
pub mod Handed
