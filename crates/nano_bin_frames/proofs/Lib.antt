pub mod FrameLemmas
pub mod PromiseLemmas
