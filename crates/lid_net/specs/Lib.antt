pub mod Steps
pub mod Marks
pub mod Reads
pub mod Nodes
pub mod Graphs
pub mod PearlParts
pub mod Systems
