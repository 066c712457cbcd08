-- From a list of tokens to a text.
use Rattle.std.proofs.Common.{◌≡◌, ◌≤◌, ℕ, List, length, subst}
use Rattle.std.specs.Prelude.{Result, Ok, Err}
use Rattle.ssb_sql.specs.declared.fault.SqlFault.{SqlFault}
use Rattle.ssb_sql.specs.declared.fault.SqlFault.TheVariants as fault
use Rattle.ssb_sql.specs.declared.select.Select.{Select}
use Rattle.ssb_tokens.specs.declared.stop.Stop.{Stop}
use Rattle.ssb_tokens.specs.declared.stop.Stop.TheVariants as stop
use Rattle.ssb_tokens.specs.declared.token.Token.{Token}
use Rattle.ssb_sql.specs.Exact.{Reads}
use Rattle.ssb_sql.specs.Grammar.{Parses}
use Rattle.ssb_sql.specs.Told.{told}
use Rattle.ssb_sql.specs.Room.{HasRoom}
use Rattle.ssb_tokens.specs.Lexes.{HasNoTokens}
use Rattle.ssb_sql.specs.Spells.{IsShallow, ReadsText, Spells}
use Rattle.ssb_tokens.specs.Tokens.{IsTokens}
use Rattle.ssb_sql.proofs.Depth.{same_room}
use Rattle.ssb_tokens.proofs.TokenLists.{one_list}

shallow-one : (text : List ℕ) (ts : List Token) → IsTokens text ts → HasRoom 64 ts → IsShallow text
shallow-one text ts is within us also = (same_room 64 us).to (subst (HasRoom 64) (one_list text ts us is also) within)

none-spelt : (text : List ℕ) (ts : List Token) → IsTokens text ts → ((x : Select) → Parses ts x → ⊥) → (x : Select) → Spells text x → ⊥
none-spelt text ts is none x s = none x (subst (λ us. Parses us x) (one_list text s.tokens ts s.is_text is) s.is_query)

-- what the tokens of a text spell is what the text spells
pub read-tokens : (text : List ℕ) (ts : List Token) (r : Result Select SqlFault) → length text ≤ 65536 → IsTokens text ts → Reads ts r → ReadsText text r
read-tokens text ts (Ok x) short is h = record { short = short; shallow = shallow-one text ts is h.0; spells = record { tokens = ts; is_text = is; is_query = h.1 } }
read-tokens text ts (Err fault.TooDeep) short is h = (short, record { tokens = ts; is_text = is; beyond = λ w. h ((same_room 64 ts).from w) })
read-tokens text ts (Err fault.Syntax) short is h = record { short = short; shallow = shallow-one text ts is h.0; none = none-spelt text ts is h.1 }
read-tokens text ts (Err fault.Memory) short is h = tt
read-tokens text ts (Err fault.TooLong) short is h = absurd h

-- a text that is no list of tokens
pub read-none : (text : List ℕ) (e : Stop) → length text ≤ 65536 → HasNoTokens e text → ReadsText text (Err (told e))
read-none text stop.Syntax short none = record { short = short; shallow = λ ts is. absurd (none ts is); none = λ x s. none s.tokens s.is_text }
read-none text stop.Memory short none = tt

-- a text spells at most one query, since its tokens do
pub one-select : ((ts : List Token) (x y : Select) → Parses ts x → Parses ts y → x ≡ y) → (text : List ℕ) (x y : Select) → Spells text x → Spells text y → x ≡ y
one-select one text x y a b = one a.tokens x y a.is_query (subst (λ ts. Parses ts y) (one_list text b.tokens a.tokens b.is_text a.is_text) b.is_query)
