pub mod Boards
pub mod PlainStations
pub mod Starts
pub mod Words
