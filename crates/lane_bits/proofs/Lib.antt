pub mod BitLaws
pub mod GroupLaws
pub mod HearingLaws
pub mod NewPlaceLaws
pub mod PlaceLaws
