pub mod Walking
pub mod Delays
pub mod Steps
