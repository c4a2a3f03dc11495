pub mod Meaning
pub mod Tables
pub mod Collected
pub mod Sets
pub mod Ordered
pub mod Order
pub mod Sums
