pub mod Covers
pub mod Elaborated
pub mod Elaborations
pub mod Numbers
pub mod Templates
pub mod Scopes
pub mod Parts
