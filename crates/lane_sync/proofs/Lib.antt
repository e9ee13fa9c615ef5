pub mod SyncLaws
