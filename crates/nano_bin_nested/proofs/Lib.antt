pub mod ChoiceReaders
pub mod NestedLaws
pub mod LegalLaws
