mod Prelude
pub mod WindowFacts
pub mod EventLaws
pub mod ReadingSteps
pub mod ReadingFound
pub mod ReadingOne
pub mod PlacesLaws
pub mod FrontLaws
pub mod PlacesBounds
pub mod ReadingSpeltLaws
