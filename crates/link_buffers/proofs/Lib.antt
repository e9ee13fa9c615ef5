pub mod QueueLemmas
pub mod StoreLemmas
pub mod PriorityLists
pub mod PlaceLaws
pub mod RingLaws
pub mod PriorityLaws
pub mod PriorityParts
