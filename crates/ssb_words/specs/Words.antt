-- What is known of a task that words ask.
-- Source: own.
use Rattle.std.specs.Prelude.{◌≡◌, ℕ, List, Some, codes, ⊤}
use Rattle.std.specs.Map.{lookup}
use Rattle.std.specs.Str.{bytes_eq}
use Rattle.ssb_words.specs.Benchmark.{named_texts}
use Rattle.ssb_words.specs.declared.words.QuerySource.{QuerySource}
use Rattle.ssb_words.specs.declared.words.QuerySource.TheVariants as query
use Rattle.ssb_words.specs.declared.words.Task.{Task}
use Rattle.ssb_words.specs.declared.words.Task.TheVariants as task

-- a text that stands in place of a file is that of a query of the benchmark
abbrev pub IsFileOrBenchmark : QuerySource → Type 0
IsFileOrBenchmark (query.File path) = ⊤
IsFileOrBenchmark (query.Text text) = (name : List ℕ) × (lookup (bytes_eq name) named_texts ≡ Some text.now)

-- the task's query is that of a file or of the benchmark
abbrev pub AsksKnownQuery : Task → Type 0
AsksKnownQuery (task.Run tables query headers timing) = IsFileOrBenchmark query
AsksKnownQuery (task.Explain tables query analyze) = IsFileOrBenchmark query
AsksKnownQuery (task.Shell tables stop) = ⊤
AsksKnownQuery (task.Check query catalog) = ⊤

-- the word of the command that asks for the task
abbrev pub command_word : Task → List ℕ
command_word (task.Run tables query headers timing) = codes "run"
command_word (task.Explain tables query analyze) = codes "explain"
command_word (task.Shell tables stop) = codes "shell"
command_word (task.Check query catalog) = codes "check"
