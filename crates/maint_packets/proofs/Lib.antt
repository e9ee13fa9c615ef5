pub mod FormLaws
pub mod LayoutLaws
pub mod RequestLaws
pub mod ResponseLaws
pub mod AnswerLaws
