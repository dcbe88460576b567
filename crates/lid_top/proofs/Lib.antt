pub mod Endings
pub mod Pieces
pub mod Runs
pub mod Clocked
pub mod Verified
pub mod Fetched
