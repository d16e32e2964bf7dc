-- Laws of the longest run of free cells, and the lemmas behind them.
pub mod Found
pub mod Laws
