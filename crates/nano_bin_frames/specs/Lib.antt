pub mod Frames
pub mod Left
pub mod Outcomes
