pub mod Apart
pub mod Assembly
pub mod Cutting
pub mod Edges
pub mod Geometry
pub mod Leads
pub mod Marking
pub mod Numbered
