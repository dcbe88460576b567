pub mod Beginnings
pub mod Taking
pub mod Giving
pub mod Rereading
pub mod Calling
pub mod Needing
pub mod Packs
