pub mod FirstPlaces
pub mod ChannelOrder
pub mod LineFaults
pub mod Amounts
pub mod Fitting
pub mod LineTexts
pub mod PrintedLines
pub mod PrintedPlacements
