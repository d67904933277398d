pub mod DigitLaws
pub mod NameLaws
pub mod ValueLaws
pub mod RegisteredLaws
pub mod FlatLaws
