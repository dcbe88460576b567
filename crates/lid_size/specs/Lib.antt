pub mod Sizing
pub mod Sizes
pub mod Choices
pub mod Comparing
pub mod Laws
pub mod Testing
