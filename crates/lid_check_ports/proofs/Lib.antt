pub mod Sets
pub mod Subs
pub mod Unbound
