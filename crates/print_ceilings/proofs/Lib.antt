pub mod EndLaws
pub mod FirstComings
pub mod FirstVisits
pub mod KindSums
pub mod Laid
pub mod Lists
pub mod Passing
pub mod RoundsWaitsFound
pub mod RowRoom
pub mod RowSteps
pub mod Starts
pub mod Tellings
pub mod Totals
mod WholeWaits
mod PieceAt
