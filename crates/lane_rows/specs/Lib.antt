pub mod RowHearing
pub mod RowSending
pub mod Rows
