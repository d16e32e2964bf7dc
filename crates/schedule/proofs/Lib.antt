-- The proof that a run tells the history of its schedule.
pub mod EntryLaws
pub mod HistoryLaws
pub mod Presence
pub mod BookLaws
pub mod CallsBy
pub mod Missed
pub mod Booked
pub mod Written
pub mod TurnWords
pub mod Kept
pub mod KeptWaits
pub mod Running
