pub mod ForwardParts
pub mod ForwardWalks
