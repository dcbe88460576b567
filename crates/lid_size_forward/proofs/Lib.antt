pub mod Closed
pub mod Forwards
pub mod Taken
pub mod ForwardShown
