-- The exit code of `show`.
use Rattle.std.specs.Prelude.{ℕ, if◌then◌else◌}
use Rattle.miette_show_rows.specs.declared.verdict.Verdict.{Verdict}

-- An unreadable line may be an error. It counts more than one.
abbrev pub status_of : Verdict → ℕ
status_of verdict = if verdict.unread then 3 else if verdict.error then 1 else 0
