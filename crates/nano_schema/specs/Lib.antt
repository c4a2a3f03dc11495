pub mod UserTypes
pub mod Views
pub mod Choices
pub mod ChoicesImpls
pub mod KeysImpls
