pub mod Laying
pub mod Settling
pub mod Tabling
