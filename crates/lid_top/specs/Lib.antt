pub mod Verified
pub mod Families
pub mod Wordless
