pub mod Forms
pub mod Faults
pub mod Channels
pub mod Places
pub mod Readings
pub mod Written
pub mod Laws
