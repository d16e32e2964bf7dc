-- The theorem on the table of histories.
pub mod Table
pub mod Converted
