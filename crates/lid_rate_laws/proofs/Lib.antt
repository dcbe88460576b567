pub mod Firsts
pub mod Least
pub mod Rounds
pub mod Depths
pub mod Making
pub mod Certified
