pub mod Run
pub mod Book
