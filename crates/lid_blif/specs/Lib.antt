pub mod Words
pub mod Faults
pub mod Names
pub mod Designs
pub mod Joins
pub mod Places
