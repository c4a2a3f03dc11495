pub mod Forms
pub mod Shown
