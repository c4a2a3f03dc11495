pub mod FieldCodecs
pub mod Outcomes
pub mod Reading
pub mod Variants
pub mod VariantCodecs
pub mod Structs
pub mod Enums
pub mod DefaultImpls
