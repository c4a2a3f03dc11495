pub mod ValuesLaws
pub mod JsonLemmas
pub mod RonLemmas
