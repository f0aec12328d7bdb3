use Rattle.std.proofs.Common.{◌≡◌, ◌++◌, drop, map, string_bytes}
use Rattle.miette_sarif.proofs.report_texts.push_texts.Given as goal

abbrev pub invariant-loop-text : goal.invariant-loop-text
invariant-loop-text l = map (λ row. row.now) l.rows.items ++ map string_bytes (drop l.text-index l.texts)
    ≡ map (λ row. row.now) l.fn.rows.items ++ map string_bytes l.texts
