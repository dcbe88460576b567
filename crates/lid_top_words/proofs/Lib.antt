pub mod Readings
pub mod SameTable
mod Examples
pub mod Reaches
