pub mod Counting
pub mod Adding
pub mod Stationed
pub mod Pearled
mod Words
mod Written
mod Ports
mod Numbers
mod Named
mod Emitting
