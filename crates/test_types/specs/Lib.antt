pub mod CommandCodecs
pub mod MessageCodecs
