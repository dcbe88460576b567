pub mod Rows
pub mod RowsText
pub mod RowsWalk
pub mod Scans
pub mod Scanned
