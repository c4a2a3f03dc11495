pub mod ChoiceLayerCodecs
pub mod PairLayerCodecs
pub mod TupleCodecs
