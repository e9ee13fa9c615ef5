-- Lists of packets of the plain network, and what steps do to them.
pub mod Lanes
pub mod Walks
pub mod Viewing
pub mod Faces
pub mod Boards
