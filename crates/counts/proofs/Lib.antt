pub mod Digits01
pub mod Listing
