pub mod Calls
pub mod WrittenFields
pub mod VariantReaders
pub mod VariantCalls
pub mod FieldNames
pub mod FieldsCalls
