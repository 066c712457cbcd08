-- Bytes are taken one by one, up to the end of a statement.
-- For the contracts inside this crate.
use Rattle.std.specs.Prelude.{◌≡◌, ◌<◌, ◌≤◌, ℕ, Bool, true, false, List, [], ◌∷◌, ◌++◌, length, take, drop, vec_len, Option, Some, None}
use Rattle.ssb_tokens.specs.Statements.{statements_from, statements_of}
use Rattle.ssb_tokens.specs.Statements as at
use Rattle.ssb_statements.specs.Bytes.{if_so}
use Rattle.ssb_statements.specs.declared.boundary.Boundary.{Boundary}
use Rattle.ssb_statements.specs.declared.boundary.Place.{Place}
use Rattle.ssb_statements.specs.declared.boundary.Place.TheVariants.{Plain, Dash, Literal, Comment}
use Rattle.ssb_statements.specs.declared.boundary.Taken.{Taken}
use Rattle.ssb_statements.specs.declared.cutter.Cutter.{Cutter}
use Rattle.ssb_statements.specs.declared.prefix.Prefix.{Prefix}

-- The statements of a text, of which the first has these bytes so far: the `-` that may begin a comment is not among them.
abbrev pub cut_from : Place → List ℕ → List ℕ → List (List ℕ)
cut_from Plain so_far bytes = statements_from at.plain so_far bytes
cut_from Dash so_far bytes = statements_from at.plain so_far (45 ∷ bytes)
cut_from Literal so_far bytes = statements_from at.literal so_far bytes
cut_from Comment so_far bytes = statements_from at.comment so_far bytes

-- the statements of what is at hand and of these bytes
abbrev pub cut : Boundary → List ℕ → List (List ℕ)
cut b bytes = cut_from b.place b.so_far.items bytes

-- nothing is at hand
pub record IsClear (b : Boundary) : Type 0 where
  pub place : b.place ≡ Plain
  pub so_far : b.so_far.items ≡ []

-- all of some bytes were taken, and the statement has no end in them
pub record GoesOn (old : Boundary) (bytes : List ℕ) (new : Boundary) : Type 0 where
  pub same : (more : List ℕ) → cut old (bytes ++ more) ≡ cut new more

-- bytes were taken up to the end of the statement, and before the rest of them
pub record HasEnd (old : Boundary) (bytes rest : List ℕ) (new : Boundary) : Type 0 where
  pub next : (more : List ℕ) → cut old (bytes ++ more) ≡ new.so_far.items ∷ statements_of (rest ++ more)

-- a byte was taken: whether the statement ends with it
abbrev pub IsTaken : Bool → Boundary → ℕ → Boundary → Type 0
IsTaken false old byte new = GoesOn old (byte ∷ []) new
IsTaken true old byte new = HasEnd old (byte ∷ []) [] new

-- the bytes that belong to the statement, of a byte that was taken and of the `-` before it
abbrev pub taken_bytes : Taken → ℕ → List ℕ
taken_bytes t byte = if_so t.dash 45 ++ if_so t.byte byte

-- bytes were taken up to the end of the statement, whose place among them is told, or all of them
abbrev pub AreTaken : Option ℕ → Boundary → List ℕ → Boundary → Type 0
AreTaken None old bytes new = GoesOn old bytes new
AreTaken (Some n) old bytes new = (n ≤ length bytes) × HasEnd old bytes (drop n bytes) new

-- a byte was taken, and with the end of a statement nothing is at hand
abbrev pub Passes : Bool → Boundary → ℕ → Boundary → Type 0
Passes false old byte new = GoesOn old (byte ∷ []) new
Passes true old byte new = (s : List ℕ) × ((more : List ℕ) → cut old (byte ∷ more) ≡ s ∷ statements_of more) × IsClear new

-- how many bytes a text has, if all are kept
abbrev pub IsWholeLen : Prefix → Option ℕ → Type 0
IsWholeLen p (Some n) = (n ≤ vec_len p.kept) × (n ≡ length p.all.items) × (take n p.kept.items ≡ p.all.items)
IsWholeLen p None = vec_len p.kept < length p.all.items

-- the bytes of the statement told last
abbrev pub told_text : Cutter → List ℕ
told_text c = take c.told c.text.kept.items
