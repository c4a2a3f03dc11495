pub mod Calls
pub mod WrittenFields
pub mod VariantReaders
pub mod FieldCalls
pub mod FieldsCalls
