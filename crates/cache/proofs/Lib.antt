pub mod Granules
pub mod Order
pub mod Parts
pub mod Sizes
pub mod Words
pub mod View
pub mod Lookup
pub mod Operations
