pub mod GivingLaws
pub mod EndedLaws
pub mod FeedingLaws
pub mod FrontsLaws
pub mod DataLaws
pub mod PartLaws
