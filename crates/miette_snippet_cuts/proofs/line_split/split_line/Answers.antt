use Rattle.std.proofs.Common.{◌≡◌, ◌∷◌, ◌∙◌, false, map, ap, rules}
use Rattle.std.proofs.lemmas.Result.{IfOk-weaker}
use Rattle.miette_columns.specs.views.Walking.{cell_of}
use Rattle.miette_snippet_rules.specs.rules.CutLines.{is_near_after, line_parts}
use Rattle.miette_snippet_rules.specs.views.Cuts.{measure}
use Rattle.miette_snippet_cuts.specs.steps.LineParts.{lone, prepend_made}
use Rattle.miette_snippet_cuts.specs.steps.Nearness.{LineEnds, near_by}
use Rattle.miette_snippet_cuts.proofs.CutStretches.{first_stretch}
use Rattle.miette_snippet_cuts.proofs.line_split.split_line.Goals as goal

pub returns : goal.returns
returns c =
    let step : c.args.walk ≡ cell_of c.in-Some.cell ∷ c.next.new.self = search rules in
    let value : LineEnds = record { room = c.args.room.now; ends = c.args.ends.now } in
    let same : c.lone_part-first.new.nearness ≡ value = c.lone_part-first.ensures.same
    ∙ c.new-nearness.ensures in
    let first : c.lone_part-first.result ≡ lone (is_near_after (near_by value.room value.ends) false
    (cell_of c.in-Some.cell)) (cell_of c.in-Some.cell) = c.lone_part-first.ensures.lone
    ∙ ap (λ (v : LineEnds). lone (is_near_after (near_by v.room v.ends) false (cell_of c.in-Some.cell))
    (cell_of c.in-Some.cell)) c.new-nearness.ensures in
    IfOk-weaker c.split_after.result _ _ (λ _ h. h
    ∙ ap (λ (v : LineEnds). prepend_made c.lone_part-first.result (map measure
    (line_parts (near_by v.room v.ends) c.lone_part-first.result.shown c.next.new.self))) same
    ∙ first_stretch (near_by c.args.room.now c.args.ends.now) false (cell_of c.in-Some.cell)
    c.args.walk c.next.new.self c.lone_part-first.result step first) c.split_after.ensures
