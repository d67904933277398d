pub mod HeldBytes
pub mod Values
pub mod Standard
pub mod Answers
pub mod Entries
pub mod RegistryNames
pub mod Registered
pub mod StandardPrimitives
