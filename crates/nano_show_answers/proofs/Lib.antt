pub mod ListingLemmas
pub mod WordLemmas
pub mod AnswerLemmas
pub mod TableOrder
