use Rattle.std.proofs.Common.{◌≡◌, ◌∙◌, ◌++◌, ap, ap₂, chars, false, true}
use Rattle.std.proofs.lemmas.Result.{on_ok_weaker}
use Rattle.miette_runs.specs.rules.Sequences.{spell, tokens}
use Rattle.miette_text.specs.rules.Wrapping.{filled_text, text_lines, whole_lines}
use Rattle.miette_text.specs.views.Plans.{runs_plan}
use Rattle.miette_text.proofs.Simple.{wrapped-filled, wrapped-whole}
use Rattle.miette_text.proofs.wrapping.push_wrapped.Goals as goal

pub returns-then-not-plan : goal.returns-then-not-plan
returns-then-not-plan g c =
    let p = runs_plan c.args.plan in
    let old = g.S.Canvas.written c.args.out.now in
    let read = tokens (chars c.args.text.now) in
    let whole : p.wrap_lines ≡ false = cc in
    on_ok_weaker c.push_whole.result (λ h. h
    ∙ ap₂ (λ us vs. old ++ spell (whole_lines us vs (text_lines read))) c.parts.ensures c.parts-then-not-plan.ensures
    ∙ ap (λ us. old ++ spell us) (wrapped-whole p read whole)) c.push_whole.ensures

pub returns-in-Some : goal.returns-in-Some
returns-in-Some g c =
    let p = runs_plan c.args.plan in
    let old = g.S.Canvas.written c.args.out.now in
    let wrap_lines : p.wrap_lines ≡ true = cc in
    let is = rw c.in-Some.is at c.plain.ensures in
    on_ok_weaker c.push_filled_under.result (λ h. h
    ∙ ap₂ (λ us ts. us ++ spell (filled_text p ts)) c.in_ok-reserve.ensures is
    ∙ ap (λ us. old ++ spell us) (wrapped-filled p (tokens (chars c.args.text.now)) wrap_lines))
    c.push_filled_under.ensures

pub returns : goal.returns
returns g c =
    let p = runs_plan c.args.plan in
    let old = g.S.Canvas.written c.args.out.now in
    let wrap_lines : p.wrap_lines ≡ true = cc in
    on_ok_weaker c.push_filled_runs.result (λ h. h
    ∙ ap (λ ts. old ++ spell (filled_text p ts)) c.in_ok-read.ensures.tokens
    ∙ ap (λ us. old ++ spell us) (wrapped-filled p (tokens (chars c.args.text.now)) wrap_lines))
    c.push_filled_runs.ensures
