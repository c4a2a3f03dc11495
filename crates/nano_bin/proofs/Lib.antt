pub mod Collecting
pub mod Readers
pub mod RoundTrip
pub mod Variants
