pub mod Rising
pub mod Held
pub mod Walking
pub mod Alive
