pub mod Ids
pub mod Form
pub mod Shows
pub mod Text
pub mod Words
pub mod Writable
