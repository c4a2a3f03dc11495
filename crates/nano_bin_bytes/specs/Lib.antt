-- what a reader answers
pub mod Reading
-- numbers
pub mod Scalars
pub mod NumberImpls
-- what encodes what, and what is written
pub mod Codec
pub mod BaseCodecs
pub mod Promises
pub mod Containers
pub mod Variants
