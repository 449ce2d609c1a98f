pub mod Output
pub mod Reply
pub mod Report
pub mod Request
