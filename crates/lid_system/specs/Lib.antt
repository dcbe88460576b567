pub mod Systems
pub mod Tables
pub mod Streams
