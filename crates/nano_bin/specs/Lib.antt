-- what a reader of bytes answers, and what encodes what, passed on
pub use Rattle.nano_bin_bytes.specs.Reading
pub use Rattle.nano_bin_bytes.specs.Scalars
pub use Rattle.nano_bin_bytes.specs.Codec
pub use Rattle.nano_bin_bytes.specs.BaseCodecs
pub use Rattle.nano_bin_bytes.specs.Promises
pub use Rattle.nano_bin_bytes.specs.Containers
pub use Rattle.nano_bin_bytes.specs.Variants
-- the codecs of the types
pub mod ScalarCodecs
pub mod ContainerCodecs
