pub mod FormLaws
pub mod HintLaws
pub mod KindLaws
pub mod MisfitLaws
