pub mod ByRank
pub mod Rising
pub mod TextRanks
