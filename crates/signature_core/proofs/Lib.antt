pub mod SortLaws
pub mod ArityLaws
pub mod TermLaws
