pub mod Following
pub mod Marking
pub mod Picking
pub mod Planning
pub mod Reordering
pub mod Sharing
pub mod Stepping
