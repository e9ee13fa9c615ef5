-- What a port holds came to it.
pub mod Coming
pub mod Still
pub mod HoldsStill
pub mod HoldsRead
