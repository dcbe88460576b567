pub mod Dependence
pub mod Flaws
pub mod Pearls
