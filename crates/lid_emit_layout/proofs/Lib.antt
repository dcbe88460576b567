pub mod Places
pub mod Making
pub mod Joining
pub mod Acting
pub mod Reading
pub mod Framing
