pub mod Acceptance
pub mod Facts
pub mod Flats
pub mod Networks
