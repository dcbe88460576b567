pub mod Drafting
pub mod Sources
pub mod Stations
pub mod Ends
pub mod Actors
pub mod Shells
pub mod Outers
pub mod Alls
