-- the texts that were not reached are what is left to write
use Rattle.std.proofs.Common.{map, string_bytes, drop}
use Rattle.miette_tree.specs.rules.Display.{after_colons}
use Rattle.miette_tree.proofs.Leading.{LeadsOn}
use Rattle.miette_tree.proofs.messages.write_each_after_colon.Given as goal

abbrev pub invariant-loop-text : goal.invariant-loop-text
invariant-loop-text g l = LeadsOn g.W.Write.write_str_gives l.fn.f l.f (after_colons (map string_bytes l.texts))
    (after_colons (map string_bytes (drop l.text-index l.texts)))
