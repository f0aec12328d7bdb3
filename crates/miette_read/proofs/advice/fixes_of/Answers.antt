use Rattle.std.proofs.Common.{◌++◌, ap, sym, ◌∙◌}
use Rattle.std.specs.List.{flat_map}
use Rattle.std.specs.Option.{option_copied}
use Rattle.std.proofs.lemmas.List.{take_all}
use Rattle.miette_read.specs.rules.Reports.{main_fixes}
use Rattle.miette_read.proofs.Steps.{flat_next}
use Rattle.miette_read.proofs.advice.fixes_of.Goals as goal

pub loop-offer-preserved : goal.loop-offer-preserved
loop-offer-preserved c =
    let fixes = main_fixes (option_copied c.args.main) in
    let x = c.offer-item.result in
    c.in_ok-push_main_fixes.ensures ∙ ap (λ l. l ++ fixes x) c.loop-offer.invariant
    ∙ sym (flat_next fixes c.args.offers.now c.loop-offer.offer-index x c.loop-offer-test.true c.offer-item.is)

pub returns : goal.returns
returns c =
    c.loop-offer.invariant
    ∙ ap (flat_map (main_fixes (option_copied c.args.main)))
    (take_all c.loop-offer.offer-index c.args.offers.now c.loop-offer-test.false)
