-- How the commands of a shell are written.
-- Source: own, as the shells of databases have it; docs/SHELL.md lists them.
use Rattle.std.specs.Prelude.{◌≡◌, ◌<◌, ◌==◌, ℕ, Bool, List, [], length, Some, None, codes, if◌then◌else◌}
use Rattle.std.specs.List.{after_first, before_first}
use Rattle.std.specs.Map.{lookup}
use Rattle.std.specs.Str.{bytes_eq, trim}
use Rattle.ssb_words.specs.Benchmark.{named_texts}
use Rattle.ssb_words.specs.declared.commands.Command.{Command}
use Rattle.ssb_words.specs.declared.commands.Command.TheVariants as command

abbrev pub is_space : ℕ → Bool
is_space b = b == 32

-- the first word of a line
abbrev pub word_of : List ℕ → List ℕ
word_of line = before_first is_space (trim line)

-- what is behind it
abbrev pub rest_of : List ℕ → List ℕ
rest_of line = trim (after_first is_space (trim line))

-- the word stands alone
abbrev pub IsAlone : List ℕ → List ℕ → List ℕ → Type 0
IsAlone name word rest = (word ≡ name) × (rest ≡ [])

-- something stands behind the word
abbrev pub HasBehind : List ℕ → List ℕ → List ℕ → List ℕ → Type 0
HasBehind name given word rest = (word ≡ name) × (rest ≡ given) × (0 < length given)

-- a command is written as this word, with this behind it
abbrev pub IsWritten : Command → List ℕ → List ℕ → Type 0
IsWritten command.Tables word rest = IsAlone (codes ".tables") word rest
IsWritten (command.Schema table) word rest = HasBehind (codes ".schema") table.now word rest
IsWritten (command.Run text) word rest = (word ≡ codes ".run") × (lookup (bytes_eq rest) named_texts ≡ Some text.now)
IsWritten (command.Explain query) word rest = HasBehind (codes ".explain") query.now word rest
IsWritten (command.Read path) word rest = HasBehind (codes ".read") path.now word rest
IsWritten (command.Output None) word rest = IsAlone (codes ".output") word rest
IsWritten (command.Output (Some path)) word rest = HasBehind (codes ".output") path.now word rest
IsWritten (command.Columns on) word rest = (word ≡ codes ".mode") × (rest ≡ (if on then codes "columns" else codes "bars"))
IsWritten (command.Headers on) word rest = (word ≡ codes ".headers") × (rest ≡ (if on then codes "on" else codes "off"))
IsWritten (command.Timing on) word rest = (word ≡ codes ".timing") × (rest ≡ (if on then codes "on" else codes "off"))
IsWritten command.Reload word rest = IsAlone (codes ".reload") word rest
IsWritten command.Help word rest = IsAlone (codes ".help") word rest
IsWritten command.Quit word rest = IsAlone (codes ".quit") word rest
