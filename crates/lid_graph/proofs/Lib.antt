pub mod Counting
pub mod Journeys
pub mod Trees
