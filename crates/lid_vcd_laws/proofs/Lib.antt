pub mod Leading
pub mod Heads
pub mod Bodies
pub mod Parsing
pub mod Found
pub mod Refused
