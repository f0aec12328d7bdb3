use Rattle.std.proofs.Common.{◌++◌, Some, ap, sym, ◌∙◌}
use Rattle.std.proofs.lemmas.List.{take_all}
use Rattle.miette_read.specs.rules.Reports.{main_fixes}
use Rattle.miette_read.proofs.Steps.{flat_next}
use Rattle.miette_read_sarif.specs.rules.Wholes.{fixes_over}
use Rattle.miette_read_sarif.proofs.whole_file_suggestions.fixes_over.Goals as goal

pub loop-offer-preserved : goal.loop-offer-preserved
loop-offer-preserved c =
    let l = c.loop-offer in
    let fixes = main_fixes (Some c.args.name.now) in
    c.in_ok-push_over.ensures ∙ ap (λ list. list ++ fixes c.offer-item.result) l.invariant
    ∙ sym (flat_next fixes c.args.offers.now l.offer-index c.offer-item.result c.loop-offer-test.true c.offer-item.is)

pub returns : goal.returns
returns c =
    c.loop-offer.invariant
    ∙ ap (fixes_over c.args.name.now) (take_all c.loop-offer.offer-index c.args.offers.now c.loop-offer-test.false)
