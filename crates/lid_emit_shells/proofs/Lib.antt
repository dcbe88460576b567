pub mod Apart
pub mod Filled
pub mod Inside
pub mod Standing
pub mod Lasting
pub mod Pushing
pub mod Widths
pub mod Wiring
