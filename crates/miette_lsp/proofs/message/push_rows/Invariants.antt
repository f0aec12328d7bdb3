use Rattle.std.proofs.Common.{◌≡◌, ◌++◌, string_bytes, map, drop}
use Rattle.miette_lsp.specs.rules.Diagnostics.{rows}
use Rattle.miette_lsp.proofs.message.push_rows.Given as goal

abbrev pub invariant-loop-text : goal.invariant-loop-text
invariant-loop-text l = string_bytes l.out ++ rows l.title (map (λ text. text.now) (drop l.text-index l.texts))
    ≡ string_bytes l.fn.out ++ rows l.title (map (λ text. text.now) l.texts)
