pub mod DefaultImpls
pub mod Depth
pub mod Parts
