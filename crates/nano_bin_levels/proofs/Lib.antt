pub mod ChainsLaws
pub mod LevelsLaws
pub mod LayersLaws
pub mod ListsLaws
pub mod MapsLaws
pub mod OptionsLaws
pub mod PlacesLaws
