-- Old boards to new and back: two converters (document 02, A7).
pub mod Layouts
pub mod Convert
pub mod Claims
pub mod Members
