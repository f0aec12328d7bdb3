use Rattle.std.proofs.Common.{◌∙◌, ◌++◌, ap, chars, refl, sym}
use Rattle.std.proofs.lemmas.Result.{on_ok_weaker}
use Rattle.miette_runs.specs.rules.Sequences.{tokens}
use Rattle.miette_text.specs.views.Plans.{printed_plan}
use Rattle.miette_text.proofs.Simple.{wrapped-read}
use Rattle.miette_text.proofs.wrapping.wrap_text.Goals as goal

pub returns-then-are_canonical : goal.returns-then-are_canonical
returns-then-are_canonical c =
    let p = c.args.plan in
    let text = chars c.args.text.now in
    let is = c.are_canonical.ensures in
    let t = c.if-are_canonical.true in
    on_ok_weaker c.push_wrapped.result (λ h. h
    ∙ ap (λ us. c.args.out.now ++ us) (wrapped-read (printed_plan p) p.first.now p.further.now (tokens text) text
    (sym (is.first t)) (sym (is.further t)) refl)) c.push_wrapped.ensures

pub returns : goal.returns
returns c =
    let text = chars c.args.text.now in
    on_ok_weaker c.push_wrapped-2.result (λ h. h
    ∙ ap (λ us. c.args.out.now ++ us) (wrapped-read (printed_plan c.args.plan) c.in_ok-first.first
    c.in_ok-further.further (tokens text) text c.in_ok-first.ensures c.in_ok-further.ensures refl))
    c.push_wrapped-2.ensures
