pub mod InputLaws
pub mod PieceLaws
pub mod ServingLaws
pub mod FeedLaws
