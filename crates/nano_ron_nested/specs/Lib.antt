pub mod Depth
pub mod PartCodecs
pub mod DefaultImpls
pub mod TypeCodecs
