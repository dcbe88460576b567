pub mod Had
pub mod Texts
