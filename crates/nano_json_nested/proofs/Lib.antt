pub mod ListReaders
pub mod FieldReaders
pub mod MapReaders
pub mod NestedLaws
pub mod WrittenLaws
