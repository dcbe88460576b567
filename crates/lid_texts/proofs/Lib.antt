pub mod Faulted
pub mod Finishing
pub mod Judging
pub mod Limits
pub mod Scanning
pub mod Splits
pub mod Walking
