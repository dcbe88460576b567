pub mod Courses
pub mod Rules
pub mod Settings
pub mod FreeRuns
pub mod Gathering
pub mod Sweeps
pub mod Endings
pub mod Workers
