pub mod Came
pub mod Cutting
pub mod Joined
pub mod Going
pub mod Fetches
pub mod Passing
pub mod FaultLines
pub mod StepTexts
