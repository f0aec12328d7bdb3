use Rattle.std.proofs.Common.{◌++◌, ap, sym, ◌∙◌}
use Rattle.std.specs.List.{flat_map}
use Rattle.std.specs.Option.{option_copied}
use Rattle.std.proofs.lemmas.List.{take_all}
use Rattle.miette_read.specs.rules.Reports.{advice_of}
use Rattle.miette_read.proofs.Steps.{flat_next}
use Rattle.miette_read.proofs.advice.related_of.Goals as goal

pub loop-offer-preserved : goal.loop-offer-preserved
loop-offer-preserved g c =
    let told = advice_of (option_copied c.args.main) in
    let x = c.offer-item.result in
    c.in_ok-push_advice.ensures ∙ ap (λ l. l ++ told x) c.loop-offer.invariant
    ∙ sym (flat_next told c.args.offers.now c.loop-offer.offer-index x c.loop-offer-test.true c.offer-item.is)

pub returns : goal.returns
returns g c =
    c.loop-offer.invariant
    ∙ ap (flat_map (advice_of (option_copied c.args.main)))
    (take_all c.loop-offer.offer-index c.args.offers.now c.loop-offer-test.false)
