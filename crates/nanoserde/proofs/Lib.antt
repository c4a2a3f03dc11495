pub mod Forms
pub mod OutOfMemory
