pub mod Exact
pub mod Rates
pub mod Pieces
pub mod Grouping
pub mod Shown
pub mod Laws
