pub mod GrowthLaws
pub mod FirstLaws
pub mod WorkedLaws
