pub mod JoinLaws
pub mod RowLaws
