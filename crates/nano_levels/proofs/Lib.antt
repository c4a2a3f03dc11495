pub mod LevelsLaws
pub mod LayersLaws
pub mod KindsLaws
pub mod EntriesLaws
pub mod ChainsLaws
