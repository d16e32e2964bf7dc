-- Where a long label fits: the longest run of free cells (document 02, A5).
pub mod FreeCells
pub mod Search
pub mod LongestFreeRun
