-- The bench program's output (document 01: Dagmar's bench program).
pub mod Print
