pub mod Faults
pub mod Refusals
pub mod Saying
pub mod Told
