pub mod Walking
pub mod Moving
