pub mod Pearls
pub mod Inside
