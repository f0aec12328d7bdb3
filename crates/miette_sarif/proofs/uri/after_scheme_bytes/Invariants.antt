use Rattle.std.proofs.Common.{◌≡◌, length}
use Rattle.miette_sarif.specs.rules.Uris.{after_scheme_bytes}
use Rattle.miette_sarif.proofs.uri.after_scheme_bytes.Given as goal

abbrev pub invariant-loop-first : goal.invariant-loop-first
invariant-loop-first l = after_scheme_bytes l.rest ≡ after_scheme_bytes l.bytes

abbrev pub decreases-loop-first : goal.decreases-loop-first
decreases-loop-first l = length l.rest
