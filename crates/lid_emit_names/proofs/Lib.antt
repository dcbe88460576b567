pub mod Joining
pub mod Naming
pub mod Written
pub mod Cells
pub mod Plain
pub mod Tables
