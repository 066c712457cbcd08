-- When groups stand for one row more.
use Rattle.std.proofs.Common.{◌≡◌, ℕ, ◌+◌, true, false, true≢false, is_some, List, [], ◌∷◌, ◌++◌, map, length, Option, None, Some, refl, sym, ap, subst, ◌∙◌, arith, length-append}
use Rattle.std.specs.List.{IsDistinct}
use Rattle.std.specs.Map.{lookup}
use Rattle.ssb_plan.specs.JobShape.{JobShape}
use Rattle.ssb_groups.specs.Joining.{joinings_of, option_joined}
use Rattle.ssb_groups.specs.Rows.{Key, key_eq, SeenRow}
use Rattle.ssb_groups.specs.Stands.{AreRanged, GroupMap, Stands, overflows, least_of, least, group, summary}
use Rattle.ssb_groups.proofs.RowFacts.{summary-append, group-append, overflows-append, least-append, AreRanged-append}

-- n has at each key the aggregates of g and of h, joined
abbrev pub JoinsAll : GroupMap → GroupMap → GroupMap → Type 0
JoinsAll g h n = (k : Key) → lookup (key_eq k) n.entries ≡ option_joined (joinings_of n.job) (lookup (key_eq k) g.entries) (lookup (key_eq k) h.entries)

pub none_left : (a b : Option ℕ) → least_of a b ≡ None → a ≡ None
none_left None b e = refl
none_left (Some m) None e = cc
none_left (Some m) (Some n) e = cc

pub none_right : (a b : Option ℕ) → least_of a b ≡ None → b ≡ None
none_right None b e = e
none_right (Some m) None e = refl
none_right (Some m) (Some n) e = cc

pub Stands-join : (g h n : GroupMap) (A B : List SeenRow) → Stands g A → Stands h B → n.job ≡ g.job → h.job ≡ g.job
    → n.counted ≡ g.counted + h.counted
    → n.overflow ≡ least_of g.overflow h.overflow
    → IsDistinct key_eq (map (λ e. e.0) n.entries)
    → (n.overflow ≡ None → JoinsAll g h n)
    → Stands n (A ++ B)
Stands-join g h n A B p q job same counted overflow distinct joins = record {
  ranged = AreRanged-append A B p.ranged q.ranged;
  counted = let a = p.counted in let b = q.counted in omega (arith, length-append A B);
  overflow = overflow ∙ cc (p.overflow, q.overflow, overflows-append A B, least-append (overflows A) (overflows B));
  exact = λ none k.
      let gn = none_left g.overflow h.overflow (sym overflow ∙ none) in
      let hn = none_right g.overflow h.overflow (sym overflow ∙ none) in
      let left : lookup (key_eq k) g.entries ≡ summary n.job.query.aggregates (group k A) = p.exact gn k ∙ ap (λ (x : JobShape). summary x.query.aggregates (group k A)) (sym job) in
      let right : lookup (key_eq k) h.entries ≡ summary n.job.query.aggregates (group k B) = q.exact hn k ∙ ap (λ (x : JobShape). summary x.query.aggregates (group k B)) (same ∙ sym job) in
      joins none k ∙ cc (left, right, group-append k A B, summary-append n.job n.job.query.aggregates (group k A) (group k B));
  distinct = distinct;
}

-- groups without entries stand for no row
pub Stands-nothing : (g : GroupMap) → g.counted ≡ 0 → g.overflow ≡ None → g.entries ≡ [] → Stands g []
unfolding IsDistinct
Stands-nothing g counted overflow entries = record {
  ranged = tt;
  counted = counted;
  overflow = overflow;
  exact = λ none k. ap (lookup (key_eq k)) entries;
  distinct = subst (λ es. IsDistinct key_eq (map (λ e. e.0) es)) (sym entries) tt;
}

pub none_from : {X : Type 0} (o : Option X) → is_some o ≡ false → o ≡ None
none_from None e = refl
none_from (Some x) e = cc

pub not_none_from : {X : Type 0} (o : Option X) → is_some o ≡ true → o ≡ None → ⊥
not_none_from None e h = absurd (true≢false (sym e))
not_none_from (Some x) e h = cc

-- ---- the rows of a block

some-least : (o : Option ℕ) (n : ℕ) → least_of o (Some n) ≡ None → ⊥
some-least None n e = cc e
some-least (Some m) n e = cc e

-- rows at one of which an argument is Over
pub Stands-overs : (g n : GroupMap) (A B : List SeenRow) (fact : ℕ) → Stands g A → AreRanged B → Some fact ≡ least (overflows B) → n.job ≡ g.job → n.counted ≡ g.counted + length B → n.overflow ≡ least_of g.overflow (Some fact) → n.entries ≡ g.entries → Stands n (A ++ B)
Stands-overs g n A B fact p ranged is job counted overflow entries = record {
  ranged = AreRanged-append A B p.ranged ranged;
  counted = let a = p.counted in omega (arith, a, counted, length-append A B);
  overflow = overflow ∙ cc (p.overflow, is, overflows-append A B, least-append (overflows A) (overflows B));
  exact = λ none q. absurd (some-least g.overflow fact (sym overflow ∙ none));
  distinct = subst (λ es. IsDistinct key_eq (map (λ e. e.0) es)) (sym entries) p.distinct;
}

-- rows at none of which one is, where one was before
pub Stands-skipped : (g n : GroupMap) (A B : List SeenRow) → Stands g A → AreRanged B → overflows B ≡ [] → (g.overflow ≡ None → ⊥) → n.job ≡ g.job → n.counted ≡ g.counted + length B → n.overflow ≡ g.overflow → n.entries ≡ g.entries → Stands n (A ++ B)
Stands-skipped g n A B p ranged plain some job counted overflow entries = record {
  ranged = AreRanged-append A B p.ranged ranged;
  counted = let a = p.counted in omega (arith, a, counted, length-append A B);
  overflow = overflow ∙ p.overflow ∙ sym (right-none (least (overflows A))) ∙ cc (plain, overflows-append A B, least-append (overflows A) (overflows B));
  exact = λ none q. absurd (some (sym overflow ∙ none));
  distinct = subst (λ es. IsDistinct key_eq (map (λ e. e.0) es)) (sym entries) p.distinct;
}
  where
    right-none : (a : Option ℕ) → least_of a None ≡ a
    right-none None = refl
    right-none (Some m) = refl

-- no number has no least
pub least-nothing : (ns : List ℕ) → least ns ≡ None → ns ≡ []
least-nothing [] e = refl
least-nothing (n ∷ ns) e = absurd (some (least ns) e)
  where
    some : (o : Option ℕ) → least_of (Some n) o ≡ None → ⊥
    some None e = cc e
    some (Some m) e = cc e
