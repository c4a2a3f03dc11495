pub mod Below
pub mod Cases
pub mod Errors
pub mod Place
pub mod Shown
