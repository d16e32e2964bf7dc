-- An arena (document 01: board) as words: its layout, its records, its header, and what is replied and written; and a schedule's entries.
pub mod Layout
pub mod Records
pub mod Replies
pub mod Header
pub mod Flat
pub mod Entries
