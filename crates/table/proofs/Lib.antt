pub mod Every
pub mod Tables
pub mod Ranges
pub mod Letters
