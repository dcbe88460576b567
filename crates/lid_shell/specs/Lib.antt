pub mod Boards
pub mod Parts
pub mod Actors
pub mod Steps
pub mod TurnEnds
pub mod Turns
pub mod Inside
pub mod Starts
