pub mod Angles
pub mod Bands
pub mod LastEnds
pub mod Pushed
pub mod Raises
pub mod RowLaws
pub mod SiteKeys
pub mod SiteLaws
