pub mod Code
pub mod Context
pub mod Renamed
pub mod Ranges
pub mod StandsFor
pub mod CodeOf
pub mod Worked
