pub mod Numbers
pub mod Growing
pub mod Marking
pub mod Appending
