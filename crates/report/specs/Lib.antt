pub mod Pasted
pub mod Text
pub mod Written
pub mod Reported
pub mod RefusalText
