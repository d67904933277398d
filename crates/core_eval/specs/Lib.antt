pub mod Frame
pub mod Callee
pub mod Matching
pub mod Instance
pub mod Evaluates
