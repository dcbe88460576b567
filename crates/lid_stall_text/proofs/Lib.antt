pub mod Lasts
pub mod Ascents
