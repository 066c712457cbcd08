pub mod Star
pub mod Tables
pub use Rattle.ssb_terms.specs.Roles
pub use Rattle.ssb_trees.specs.Conditions
pub use Rattle.ssb_trees.specs.Expressions
pub use Rattle.ssb_trees.specs.declared.operand.Operand
