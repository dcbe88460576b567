pub mod Laws
pub mod Limited
pub mod Spelled
pub mod Texts
