pub mod Plans
pub mod Sites
pub mod Bits
pub mod Stations
pub mod Ends
pub mod Actors
pub mod Frames
