-- Laws of the search for a free node and of a turn on an arena, and the lemmas behind them.
pub mod Passing
pub mod Lowest
pub mod Rows
pub mod ShortRuns
pub mod FreeLaws
pub mod Walk
pub mod WholeSearch
pub mod ChangeLaws
pub mod TurnLaws
pub mod InsideLaws
