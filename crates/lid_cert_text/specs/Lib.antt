pub mod Columns
pub mod Printed
pub mod Texts
pub mod Written
