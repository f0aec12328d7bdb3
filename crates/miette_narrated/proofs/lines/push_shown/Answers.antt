use Rattle.std.proofs.Common.{ap, ◌∙◌, ◌++◌, string_bytes, subst, suc, drop}
use Rattle.std.proofs.lemmas.Result.{on_ok_weaker}
use Rattle.miette_narrated.specs.rules.Labels.{label_rows}
use Rattle.miette_narrated.specs.rules.Lines.{line_row}
use Rattle.miette_narrated.specs.steps.Conversions.{ranges_of, narrated_line}
use Rattle.miette_narrated.specs.steps.LabelSweep.{BeginsFrom}
use Rattle.miette_narrated.proofs.Putting.{then}
use Rattle.miette_narrated.proofs.Sweeps.{rows_swept}
use Rattle.miette_narrated.proofs.lines.push_shown.Goals as goal

pub returns-clause-rows : goal.returns-clause-rows
returns-clause-rows c =
    let it = narrated_line c.args.it.now in
    let placed = c.args.walk.now.order.placed.now in
    let sweep = c.advance_to.new.sweep in
    let q = string_bytes c.push_line.new.out in
    on_ok_weaker c.push_labels.result (λ h. then (string_bytes c.args.out.now) q (string_bytes c.push_labels.new.out)
    (line_row it) (label_rows it (ranges_of placed)) c.in_ok-push_line.ensures
    (h ∙ ap (λ line. q ++ label_rows (narrated_line line) (ranges_of c.deref.result.now)) c.in_ok-row.ensures
    ∙ ap (λ r. q ++ label_rows it (ranges_of r)) c.deref.ensures.value
    ∙ ap (λ r. q ++ r) (rows_swept it placed sweep.at sweep.next sweep.running.items c.requires.order.ordered
    c.in_ok-advance_to.ensures.place c.in_ok-advance_to.ensures.at
    (subst (λ k. BeginsFrom (suc k) (drop sweep.next placed)) c.last_start.ensures c.in_ok-advance_to.ensures.end))))
    c.push_labels.ensures
