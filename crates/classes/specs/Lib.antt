pub mod ClassOrder
pub mod ByClass
