pub mod Class
pub mod Lexes
pub mod Reading
pub mod Scanning
pub mod StatementLaws
pub mod Statements
pub mod Tokens
