mod Each
mod Names
mod Pearls
mod Roots
mod Heights
mod Formed
mod Words
mod Written
mod Carried
mod Channels
pub mod Sizes
mod Subs
