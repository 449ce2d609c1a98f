pub mod Access
pub mod Lookup
pub mod Recency
pub mod Table
pub mod View
