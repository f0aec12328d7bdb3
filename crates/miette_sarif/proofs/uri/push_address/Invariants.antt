use Rattle.std.proofs.Common.{◌≡◌, ◌++◌, string_bytes, length}
use Rattle.miette_sarif.specs.rules.Uris.{address_uri}
use Rattle.miette_sarif.proofs.uri.push_address.Given as goal

abbrev pub invariant-loop-first : goal.invariant-loop-first
invariant-loop-first l = string_bytes l.out ++ address_uri l.rest ≡ string_bytes l.fn.out ++ address_uri l.address

abbrev pub decreases-loop-first : goal.decreases-loop-first
decreases-loop-first l = length l.rest
