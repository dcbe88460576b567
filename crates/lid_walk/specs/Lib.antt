pub mod Setups
pub mod Firsts
pub mod Actors
pub mod Inside
pub mod Walks
pub mod Laws
