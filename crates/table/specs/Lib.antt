pub mod Codes
pub mod Words
pub mod Sporadic
pub mod Rules
pub mod Content
pub mod Model
pub mod Refusals
