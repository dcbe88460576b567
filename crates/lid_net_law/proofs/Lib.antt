pub mod Inputs
pub mod Leading
pub mod Agreeing
