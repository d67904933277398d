pub mod Words
pub mod WordTokens
pub mod Tokens
pub mod Lexes
pub mod Lexing
pub mod Readings
