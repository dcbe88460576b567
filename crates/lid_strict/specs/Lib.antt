pub mod Networks
pub mod Stems
pub mod Layouts
