pub mod TermCodecs
pub mod NodeCodecs
pub mod NodeJsonCodecs
pub mod NodeRonCodecs
pub mod TermJsonCodecs
pub mod TermRonCodecs
