pub mod Applied
pub mod Frames
pub mod PlaceStack
pub mod Builds
pub mod Loaded
