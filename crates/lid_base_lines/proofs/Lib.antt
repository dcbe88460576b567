pub mod WithinLimits
pub mod Numbers
pub mod Pieces
pub mod ReadBack
pub mod ReadWords
pub mod Spelled
