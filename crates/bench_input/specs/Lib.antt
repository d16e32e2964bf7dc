-- The bench program's input (document 01: Dagmar's bench program).
pub mod Bytes
pub mod Numbers
pub mod Lines
pub mod Input
