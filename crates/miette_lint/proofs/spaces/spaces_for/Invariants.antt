use Rattle.std.proofs.Common.{◌≡◌, ◌++◌, drop, length, string_bytes}
use Rattle.miette_lint.specs.rules.Fixes.{spaces_from}
use Rattle.miette_lint.proofs.spaces.spaces_for.Given as goal

abbrev pub invariant-loop-blank : goal.invariant-loop-blank
invariant-loop-blank l = string_bytes l.text ++ spaces_from (length (string_bytes l.text)) (drop l.blank-index l.blanks)
    ≡ spaces_from 0 l.blanks
