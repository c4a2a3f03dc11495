pub mod Layers
pub mod Kinds
pub mod Chains
pub mod Limits
