pub mod Conditions
pub mod Depth
pub mod Exact
pub mod Expressions
pub mod Forms
pub mod Grammar
pub mod OneStatement
pub mod ReadConditions
pub mod ReadExpressions
pub mod ReadParts
pub mod ReadSelects
pub mod Room
pub mod Spells
pub mod Steps
pub mod Titles
pub mod Told
pub use Rattle.ssb_tokens.specs.Lexes
pub use Rattle.ssb_tokens.specs.Reading
pub use Rattle.ssb_tokens.specs.Tokens
pub use Rattle.ssb_tokens.specs.declared.token.Token
pub use Rattle.ssb_trees.specs.Conditions as TreeConditions
pub use Rattle.ssb_trees.specs.Expressions as TreeExpressions
