pub mod Surveys
pub mod Graphs
pub mod Clocks
pub mod Nets
