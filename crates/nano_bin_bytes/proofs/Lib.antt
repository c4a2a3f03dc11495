-- numbers
pub mod ScalarsLaws
pub mod Runs
pub mod CodecLaws
-- what an error says
pub mod ErrorsLaws
-- what encodes what, and what is written
pub mod ListsLaws
pub mod TuplesLaws
pub mod OptionsLaws
pub mod MapsLaws
pub mod VariantsLaws
