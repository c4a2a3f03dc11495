pub mod Requests
pub mod Listing
pub mod Shown
pub mod Answer
