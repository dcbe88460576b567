pub mod Boards
pub mod Plain
pub mod PlainLaws
pub mod Starts
pub mod Words
