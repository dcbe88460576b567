pub mod Graphs
pub mod PartialOrders
pub mod Concatenated
pub mod Traversals
pub mod Searches
pub mod Results
