use Rattle.std.proofs.Common.{◌∙◌, ap, length, option_map, Some, subst, sym, arith}
use Rattle.miette_fix_rows.specs.rules.DiffRows.{ChangedLine, removed_beside, removed_line}
use Rattle.miette_fix_drawing.specs.steps.Spans.{AreApart}
use Rattle.miette_fix_drawing.specs.views.Contexts.{context_with}
use Rattle.miette_fix_drawing.specs.views.ShownLines.{paired_line_of}
use Rattle.miette_fix_drawing.specs.views.DiffPositions.{diff_position_of}
use Rattle.miette_fix_drawing.proofs.segments.removed_beside.Goals as goal

pub returns-in_default-clause-lines : goal.returns-in_default-clause-lines
returns-in_default-clause-lines c =
    ap (λ o. option_map (removed_beside (context_with c.args.drawing.now) (diff_position_of c.args.at.now))
    (option_map paired_line_of o)) (sym c.in_default.is)

pub returns-clause-lines : goal.returns-clause-lines
returns-clause-lines c =
    let context = context_with c.args.drawing.now in
    let at = diff_position_of c.args.at.now in
    let line : ChangedLine = removed_line context at c.in-Some.other.text.now in
    ap (λ (it : ChangedLine). Some (record it { start = c.saturating_sub-start.result })) c.in_ok-line.ensures
    ∙ ap (λ n. Some (record line { start = n })) c.saturating_sub-start.ensures
    ∙ ap (λ o. option_map (removed_beside context at) (option_map paired_line_of o)) (sym c.in-Some.is)

pub returns-clause-readable : goal.returns-clause-readable
returns-clause-readable c = (
  omega (arith, c.in_ok-_end.ensures, ap (λ (it : ChangedLine). length it.text) c.in_ok-line.ensures),
  subst AreApart (sym (ap (λ (it : ChangedLine). it.spans) c.in_ok-line.ensures)) c.requires,
)
