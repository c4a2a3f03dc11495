pub mod Inside
pub mod FieldLayers
pub mod VariantLayers
pub mod LegalLevels
pub mod Depths
