pub mod Reads
pub mod Holding
pub mod Beside
pub mod Onward
pub mod Mapped
pub mod MetLocks
pub mod Bounded
pub mod PairAlone
