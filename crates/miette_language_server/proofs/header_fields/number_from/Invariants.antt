use Rattle.std.proofs.Common.{◌≡◌, drop}
use Rattle.miette_language_server.specs.rules.Frames.{number_from}
use Rattle.miette_language_server.proofs.header_fields.number_from.Given as goal

abbrev pub invariant-loop-byte : goal.invariant-loop-byte
invariant-loop-byte l = number_from l.number l.digits ≡ number_from l.made (drop l.byte-index l.digits)
