pub mod Cutting
pub mod Ordering
pub mod Naming
pub mod Once
