pub mod Truth
pub mod Programs
pub mod Rows
