pub mod Feeds
pub mod Fetching
pub mod Rereadings
pub mod Packing
