pub mod ListReaders
pub mod MapReaders
pub mod NestedLaws
pub mod WrittenLaws
