pub mod Certificates
pub mod Owners
pub mod Laws
