use Rattle.std.proofs.Common.{◌≡◌, ◌∙◌, ◌++◌, ap, chars, length, ◌<◌, sym, eqb-true}
use Rattle.std.proofs.lemmas.Result.{on_ok_weaker}
use Rattle.miette_runs.specs.rules.Runs.{printed_run}
use Rattle.miette_runs.proofs.Painting.{run-empty, run-plain, run-pushed}
use Rattle.miette_style.proofs.Paging.{some-chars, nonzero}
use Rattle.miette_runs.proofs.runs.push_run.Goals as goal
use Rattle.miette_runs.proofs.runs.push_run.Goals.{then-is_empty-via-then-is_empty}
use Rattle.miette_runs.proofs.runs.push_run.Goals.{then-is_empty-via-else-is_empty+then-is_plain}

pub returns-then-is_empty : goal.returns-then-is_empty
returns-then-is_empty g c =
    let s = c.args.style in
    let bs = c.args.text.now in
    let same : printed_run s (chars bs) ≡ chars bs = elim c.then-is_empty.branch [
      | then-is_empty-via-then-is_empty w ↦ run-empty s bs (eqb-true _ _ (sym c.is_empty.ensures ∙ w.if-is_empty.true))
      | then-is_empty-via-else-is_empty+then-is_plain w ↦ run-plain s (chars bs)
          (sym w.is_plain.ensures ∙ w.if-is_plain.true)
    ] in
    on_ok_weaker c.push_str.result (λ h. h ∙ ap (λ x. g.C.Canvas.written c.args.out.now ++ x) (sym same))
    c.push_str.ensures

pub returns : goal.returns
returns g c =
    let bs = c.args.text.now in
    let some : 0 < length bs = nonzero (length bs) (sym c.is_empty.ensures ∙ c.if-is_empty.false) in
    on_ok_weaker c.end.result (λ h.
    run-pushed c.args.style (chars bs) (g.C.Canvas.written c.args.out.now) (g.C.Canvas.written c.begin.new.self)
    (g.C.Canvas.written c.push_str-2.new.self) (g.C.Canvas.written c.end.new.self) (some-chars bs c.utf8.text some)
    (sym c.is_plain.ensures ∙ c.if-is_plain.false) c.in_ok-begin.ensures c.in_ok-push_str.ensures h) c.end.ensures
