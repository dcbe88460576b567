pub mod Placements
pub mod Placed
pub mod Stations
pub mod Markings
pub mod Laws
