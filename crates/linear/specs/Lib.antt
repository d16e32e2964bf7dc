-- Demand 3: every list of starts and turns from a fresh arena, or from one that is sound and at rest, is linearizable.
pub mod Times
pub mod Entries
pub mod History
pub mod Order
pub mod Sequential
pub mod Linearizable
pub mod Snapshots
pub mod Works
pub mod Lent
