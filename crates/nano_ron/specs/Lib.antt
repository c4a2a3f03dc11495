-- the tokens of RON, passed on
pub use Rattle.nano_ron_tokens.specs.Token
pub use Rattle.nano_ron_tokens.specs.Cut
pub use Rattle.nano_ron_tokens.specs.State
pub use Rattle.nano_ron_tokens.specs.Outcomes
pub use Rattle.nano_ron_tokens.specs.Scan
pub use Rattle.nano_ron_tokens.specs.Promises
pub use Rattle.nano_ron_tokens.specs.Written
pub use Rattle.nano_value.specs.Meaning
-- RON's own
pub mod Codec
pub mod Readers
pub mod ScalarCodecs
pub mod ContainerCodecs
pub mod Lists
