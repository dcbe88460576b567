pub mod Courses
pub mod RunTexts
pub mod Runnings
pub mod Pushing
pub mod Stepping
pub mod Clocking
pub mod Stops
pub mod Refetching
