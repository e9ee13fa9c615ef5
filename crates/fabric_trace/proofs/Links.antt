-- What is done at a link, as the network sees it.
pub mod Bursts
pub mod Cuts
pub mod Calling
pub mod Delivering
pub mod EachEvent
pub mod Serving
pub mod EitherEnd
pub mod Telling
pub mod Ways
