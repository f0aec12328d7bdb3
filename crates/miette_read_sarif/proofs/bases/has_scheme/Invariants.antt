use Rattle.std.proofs.Common.{◌≡◌, drop}
use Rattle.miette_read_sarif.specs.rules.Bases.{has_scheme}
use Rattle.miette_read_sarif.proofs.bases.has_scheme.Given as goal

abbrev pub invariant-loop-byte : goal.invariant-loop-byte
invariant-loop-byte l = has_scheme l.uri ≡ has_scheme (drop l.byte-index l.uri)
