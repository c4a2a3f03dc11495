-- what values mean, and what each format is said with, passed on
pub use Rattle.nano_value.specs.Meaning
pub use Rattle.nano_value.specs.Sums
pub use Rattle.nano_text.specs.Place
pub use Rattle.nano_bin_bytes.specs.Reading as BinReading
pub use Rattle.nano_bin.specs.Codec as BinCodec
pub use Rattle.nano_json.specs.Codec as JsonCodec
pub use Rattle.nano_json.specs.Readers as JsonReaders
pub use Rattle.nano_ron.specs.Codec as RonCodec
pub use Rattle.nano_ron.specs.Readers as RonReaders
pub use Rattle.nano_grammar.specs.Outcomes as TextWhole
-- user-defined types
pub use Rattle.nano_schema.specs.UserTypes
pub use Rattle.nano_schema.specs.Views
pub use Rattle.nano_schema.specs.Choices
pub use Rattle.nano_bin_schema.specs.Structs as BinRecord
pub use Rattle.nano_bin_schema.specs.Enums as BinChoice
pub use Rattle.nano_bin_schema.specs.Choices as BinChoices
pub use Rattle.nano_json_schema.specs.Structs as JsonRecord
pub use Rattle.nano_json_schema.specs.Enums as JsonChoice
pub use Rattle.nano_ron_schema.specs.Structs as RonRecord
pub use Rattle.nano_ron_schema.specs.Enums as RonChoice
-- what joins the formats
pub mod Normal
pub mod Promises
