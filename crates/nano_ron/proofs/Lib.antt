pub mod Ron
pub mod Canonical
