use Rattle.std.proofs.Common.{ℕ, ◌+◌, List, ◌++◌, ◌∙◌, ap, append-nil, arith, drop, map, string_bytes, sym}
use Rattle.miette_sarif.proofs.Gathers.{next_in, none_in}
use Rattle.miette_sarif.proofs.Keys.{map_pushed, one_pushed}
use Rattle.miette_sarif.proofs.report_texts.push_texts.Goals as goal
use denote.Ref.{Bor}

abbrev rows_in : List (Bor (List ℕ)) → List (List ℕ)
rows_in rows = map (λ row. row.now) rows

pub loop-text-preserved : goal.loop-text-preserved
loop-text-preserved c =
    let l = c.loop-text in
    let texts = c.args.texts.now in
    one_pushed (rows_in l.rows.items) (rows_in c.push.new.self.items) _ _
    (map string_bytes (drop l.text-index texts)) (map string_bytes (drop (l.text-index + 1) texts)) _
    (map_pushed (λ (row : Bor (List ℕ)). row.now) l.rows.items c.push.new.self.items _ c.in_ok-push.ensures.items)
    c.as_str.ensures.value (next_in string_bytes texts l.text-index c.text-item.result c.loop-text-test.true
    c.text-item.is) l.invariant

pub returns : goal.returns
returns c =
    let l = c.loop-text in
    sym (append-nil (rows_in l.rows.items)) ∙ ap (λ ts. rows_in l.rows.items ++ ts) (sym (none_in string_bytes
    c.args.texts.now l.text-index (omega arith))) ∙ l.invariant
