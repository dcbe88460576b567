pub mod Stages
pub mod Shapes
pub mod Sections
pub mod Found
pub mod Refused
