use Rattle.std.proofs.Common.{◌++◌, ◌∷◌, [], ◌∙◌, ap, sym}
use Rattle.std.specs.Prelude.{chars}
use Rattle.std.proofs.lemmas.Result.{on_ok_weaker}
use Rattle.miette_runs.specs.rules.Runs.{print}
use Rattle.miette_graphical.specs.views.Painting.{settings_of}
use Rattle.miette_graphical_rules.specs.rules.Indents.{wrapped_after, wrapped_under}
use Rattle.miette_graphical.specs.steps.TextKinds.{initial_indent, subsequent_indent}
use Rattle.miette_graphical.proofs.indents.push_text.Goals as goal

pub returns-then-branch-clause-text : goal.returns-then-branch-clause-text
returns-then-branch-clause-text g c =
    let s = settings_of c.args.painter.now in
    let further = print (subsequent_indent s c.args.kind) in
    c.in_ok-push_row.ensures.fits c.if-branch.true further
    ∙ ap (λ first. c.args.painter.now.out ++ (wrapped_after s first further (chars c.args.text.now) ++ 10 ∷ []))
    c.in_ok-first.ensures

pub push_rows-requires : goal.push_rows-requires
push_rows-requires g c =
    c.in_ok-first.ensures ∙ ap (λ s. print (initial_indent s c.args.kind)) (sym c.push_row.ensures.stays.0)

pub returns-clause-text : goal.returns-clause-text
returns-clause-text g c =
    let old = c.args.painter.now in
    let kind = c.args.kind in
    let text = chars c.args.text.now in
    let s = settings_of c.push_row.new.painter in
    on_ok_weaker c.push_rows.result (λ h. h
    ∙ ap (λ out. out ++ (wrapped_under s (initial_indent s kind) (subsequent_indent s kind) text ++ 10 ∷ []))
    (c.in_ok-push_row.ensures.otherwise c.if-branch.false)
    ∙ ap (λ s. old.out ++ (wrapped_under s (initial_indent s kind) (subsequent_indent s kind) text ++ 10 ∷ []))
    c.push_row.ensures.stays.0) c.push_rows.ensures.text

pub returns-clause-stays : goal.returns-clause-stays
returns-clause-stays g c = (
  c.push_rows.ensures.stays.0 ∙ c.push_row.ensures.stays.0,
  c.push_rows.ensures.stays.1 ∙ c.push_row.ensures.stays.1,
)
