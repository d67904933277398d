pub mod Signature
pub mod Lookup
pub mod DeclaredTerm
pub mod SameDeclaration
pub mod Arities
pub mod Views
pub mod DeclaredCode
