use Rattle.std.proofs.Common.{◌∙◌, ◌-◌, ap, refl, sym}
use Rattle.std.proofs.lemmas.Result.{on_ok_weaker}
use Rattle.miette_text.specs.declared.options.WordSeparator.TheVariants.{AsciiSpace, UnicodeBreakProperties}
use Rattle.miette_text.specs.views.Plans.{runs_plan}
use Rattle.miette_runs.specs.views.Interleaving.{interleaving}
use Rattle.miette_text.proofs.LineWise.{under-filled}
use Rattle.miette_text.proofs.wrapping.push_filled_under.Goals as goal

pub returns-in-AsciiSpace : goal.returns-in-AsciiSpace
returns-in-AsciiSpace g c =
    let p = runs_plan c.args.plan in
    let first = interleaving 0 c.parts-first.result.codes.now c.parts-first.result.tags.now in
    let further = interleaving 0 c.parts-further.result.codes.now c.parts-further.result.tags.now in
    let text = interleaving 0 (g.C.Codes.codes c.args.text.codes) c.args.text.tags.now in
    on_ok_weaker c.push_filled.result (λ h.
    under-filled p AsciiSpace text c.min-narrow.result c.saturating_sub-room.result
    c.saturating_sub-further_room.result first further text (g.S.Canvas.written c.args.out.now)
    (g.S.Canvas.written c.push_runs_slice.new.out) (g.S.Canvas.written c.push_filled.new.out) (sym c.in-AsciiSpace.is)
    c.parts-first.ensures c.parts-further.ensures refl
    (c.saturating_sub-room.ensures ∙ ap (λ n. p.room - n) c.in_ok-first_columns.ensures)
    (c.saturating_sub-further_room.ensures ∙ ap (λ n. p.room - n) c.in_ok-further_columns.ensures)
    c.min-narrow.ensures c.in_ok-push_runs_slice.ensures h) c.push_filled.ensures

pub returns-in-UnicodeBreakProperties : goal.returns-in-UnicodeBreakProperties
returns-in-UnicodeBreakProperties g c =
    let p = runs_plan c.args.plan in
    let first = interleaving 0 c.parts-first.result.codes.now c.parts-first.result.tags.now in
    let further = interleaving 0 c.parts-further.result.codes.now c.parts-further.result.tags.now in
    let text = interleaving 0 (g.C.Codes.codes c.args.text.codes) c.args.text.tags.now in
    on_ok_weaker c.push_filled-in-UnicodeBreakProperties.result (λ h.
    under-filled p UnicodeBreakProperties text c.min-narrow.result c.saturating_sub-room.result
    c.saturating_sub-further_room.result first further text (g.S.Canvas.written c.args.out.now)
    (g.S.Canvas.written c.push_runs_slice.new.out) (g.S.Canvas.written c.push_filled-in-UnicodeBreakProperties.new.out)
    (sym
    c.in-UnicodeBreakProperties.is)
    c.parts-first.ensures c.parts-further.ensures refl
    (c.saturating_sub-room.ensures ∙ ap (λ n. p.room - n) c.in_ok-first_columns.ensures)
    (c.saturating_sub-further_room.ensures ∙ ap (λ n. p.room - n) c.in_ok-further_columns.ensures)
    c.min-narrow.ensures c.in_ok-push_runs_slice.ensures h) c.push_filled-in-UnicodeBreakProperties.ensures
