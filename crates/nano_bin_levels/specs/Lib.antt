pub mod Layers
pub mod Places
