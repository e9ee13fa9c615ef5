-- What a port frees was acknowledged.
pub mod HeardRows
pub mod Heard
pub mod FreesStill
pub mod FreesRead
pub mod Notings
