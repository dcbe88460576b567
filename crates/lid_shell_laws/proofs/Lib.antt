pub mod Caps
pub mod Turns
pub mod Ending
pub mod Passing
pub mod Channels
pub mod Filters
pub mod Ends
