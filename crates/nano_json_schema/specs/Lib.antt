pub mod FieldCodecs
pub mod Variants
pub mod VariantCodecs
pub mod Outcomes
pub mod Reading
pub mod Structs
pub mod Enums
pub mod DefaultImpls
