pub mod Values
pub mod JsonValues
pub mod RonValues
