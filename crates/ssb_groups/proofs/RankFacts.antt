-- The ranks of a job's plan serve its joinings.
use Rattle.std.proofs.Common.{◌≡◌, ℕ, zero, suc, List, [], ◌∷◌, get_or, map, slice_get, Option, None, Some, refl}
use Rattle.std.specs.Prelude.{option_map}
use Rattle.std.specs.declared.alloc.Global.{Global}
use Rattle.std.specs.declared.vec.Vec.{Vec}
use Rattle.ssb_plan.specs.Inputs.{column_ref, input_by, input_of}
use Rattle.ssb_plan.specs.JobShape.{JobShape}
use Rattle.ssb_plan.specs.Ranks.{AreAllRanks, HasRanks}
use Rattle.ssb_plan.specs.declared.input.Input.{Input}
use Rattle.ssb_query.specs.declared.column.BoundColumn.{BoundColumn}
use Rattle.ssb_trees.specs.Expressions.{own_column}
use Rattle.ssb_trees.specs.declared.aggregate.Aggregate.{Aggregate}
use Rattle.ssb_trees.specs.declared.aggregate.Aggregate.TheVariants as aggregate
use Rattle.ssb_trees.specs.declared.aggregate.SetFunction.{SetFunction}
use Rattle.ssb_trees.specs.declared.aggregate.SetFunction.TheVariants as function
use Rattle.ssb_trees.specs.declared.expr.Expr.{Expr}
use Rattle.ssb_groups.specs.Joining.{AreRanksBy, HasRanksBy, MayHaveRanks, joining_by, joining_of}
use Rattle.ssb_groups.specs.declared.joining.Joining.TheVariants as joining

module _ (j : JobShape) where
  by-column : (e : Expr BoundColumn) (f : SetFunction) (x : Option BoundColumn) (ranks : Vec ℕ Global) → HasRanks j.tables (input_by j.query e x) (Some ranks) → HasRanksBy j.tables (joining_by f (option_map (column_ref j.query) x)) ranks.items
  by-column e f None ranks h = absurd h
  by-column e function.Sum (Some x) ranks h = tt
  by-column e function.Count (Some x) ranks h = tt
  by-column e function.Min (Some x) ranks h = h
  by-column e function.Max (Some x) ranks h = h

  of-one : (a : Aggregate BoundColumn) (ranks : Option (Vec ℕ Global)) → HasRanks j.tables (input_of j.query a) ranks → MayHaveRanks j.tables (joining_of j a) ranks
  of-one a None h = tt
  of-one aggregate.Rows (Some ranks) h = absurd h
  of-one (aggregate.Of f e) (Some ranks) h = by-column e f (own_column e) ranks h

  where-added : (ranks : Option (Vec ℕ Global)) → MayHaveRanks j.tables joining.Adds ranks
  where-added None = tt
  where-added (Some ranks) = tt

  of-all : (xs : List (Aggregate BoundColumn)) (ranks : ℕ → Option (Vec ℕ Global)) → ((n : ℕ) (i : Input) → slice_get (map (input_of j.query) xs) n ≡ Some i → HasRanks j.tables i (ranks n)) → (n : ℕ) → MayHaveRanks j.tables (get_or (map (joining_of j) xs) n joining.Adds) (ranks n)
  of-all [] ranks h n = where-added (ranks n)
  of-all (a ∷ xs) ranks h zero = of-one a (ranks 0) (h 0 (input_of j.query a) refl)
  of-all (a ∷ xs) ranks h (suc n) = of-all xs (λ m. ranks (suc m)) (λ m i at. h (suc m) i at) n

  pub ranks-by : (xs : List (Aggregate BoundColumn)) (all : List (Option (Vec ℕ Global))) → AreAllRanks j.tables (map (input_of j.query) xs) all → AreRanksBy j.tables (map (joining_of j) xs) all
  ranks-by xs all are = of-all xs (λ n. get_or all n None) are.each
