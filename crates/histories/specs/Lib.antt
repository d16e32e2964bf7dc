-- Histories of some lists of entries: the requirement's bench listing among them.
pub mod Histories
pub mod Converted
