pub mod Numerals
pub mod PrintedLengths
pub mod PrintedLines
pub mod Read
pub mod ReadBack
