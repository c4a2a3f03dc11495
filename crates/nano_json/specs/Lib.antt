-- the tokens of JSON, passed on
pub use Rattle.nano_json_tokens.specs.Token
pub use Rattle.nano_json_tokens.specs.Cut
pub use Rattle.nano_json_tokens.specs.State
pub use Rattle.nano_json_tokens.specs.Skipped
pub use Rattle.nano_json_tokens.specs.Outcomes
pub use Rattle.nano_json_tokens.specs.Scan
pub use Rattle.nano_json_tokens.specs.Promises
pub use Rattle.nano_json_tokens.specs.Written
pub use Rattle.nano_value.specs.Meaning
-- JSON's own
pub mod Codec
pub mod Readers
pub mod ScalarCodecs
pub mod ContainerCodecs
pub mod Lists
