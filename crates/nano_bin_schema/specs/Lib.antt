pub mod Structs
pub mod Choices
pub mod ChoiceCodecs
pub mod Enums
