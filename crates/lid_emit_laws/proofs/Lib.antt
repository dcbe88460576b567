mod Sums
pub mod Ports
mod Columns
mod Parts
mod Weights
mod Loads
mod Shells
mod Nodes
mod Whole
mod Lines
mod Costs
mod Inner
mod ShellCosts
mod Texts
pub mod Following
pub mod Facing
