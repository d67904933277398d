pub mod ReadLaws
pub mod NameLaws
pub mod ArityLaws
pub mod SortLaws
