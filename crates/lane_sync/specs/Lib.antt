pub mod Syncing
