pub mod Recutting
pub mod Tokens
pub mod Laying
pub mod Progress
