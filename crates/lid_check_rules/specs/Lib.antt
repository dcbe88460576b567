pub mod Conditions
pub mod Acceptance
pub mod Told
pub mod Rules
pub mod Names
pub mod Early
pub mod Edges
pub mod Buffers
