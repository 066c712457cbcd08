-- What a query keeps of its catalog.
-- Source: own.
use Rattle.std.specs.Prelude.{List, map}
use Rattle.ssb_catalog.specs.Shapes.{TableShape, rules_of}
use Rattle.ssb_query.specs.declared.query.TableRules.{TableRules}

-- what the columns of each table of the catalog take
abbrev pub rules_in : List TableShape → List TableRules
rules_in c = map (λ t. record { rules = rules_of t }) c
