pub mod BlankLemmas
pub mod FeedLemmas
pub mod LeftLemmas
pub mod NextLemmas
pub mod PromiseLemmas
pub mod WriteLemmas
