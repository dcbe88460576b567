pub mod Going
pub mod Standing
pub mod Tables
