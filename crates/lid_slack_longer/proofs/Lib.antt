pub mod Reading
pub mod Rounds
pub mod Renumbering
pub mod Chains
pub mod Kept
pub mod Labelled
pub mod Labelling
