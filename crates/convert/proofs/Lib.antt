-- Laws of the converters, and the lemmas behind them.
pub mod NodeRecords
pub mod Accepted
pub mod Fronts
pub mod Gathered
pub mod Converted
pub mod Laws
pub mod RoundTrips
pub mod AtRest
