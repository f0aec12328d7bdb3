use Rattle.std.proofs.Common.{◌≡◌, ◌∙◌, ap, sym, true, false, length, rules}
use Rattle.std.proofs.lemmas.List.{nil_from_length}
use Rattle.miette_show_rows.specs.rules.Looking.{begins_up, goes_up}
use Rattle.miette_show_rows.proofs.NameSteps.{up_here, up_later}
use Rattle.miette_show_rows.proofs.rewrite.goes_up.Goals as goal

pub returns-then-begins_up : goal.returns-then-begins_up
returns-then-begins_up c =
    let here : begins_up c.loop-more.rest.now ≡ true = search rules in
    up_here c.loop-more.rest.now c.in-Some.more.now _ c.in-Some.ensures.cases.0 here ∙ c.loop-more.invariant

pub loop-more-preserved : goal.loop-more-preserved
loop-more-preserved c =
    let no : begins_up c.loop-more.rest.now ≡ false = search rules in
    up_later c.loop-more.rest.now c.in-Some.more.now _ c.in-Some.ensures.cases.0 no ∙ c.loop-more.invariant

pub returns : goal.returns
returns c =
    let none : length c.loop-more.rest.now ≡ 0 = search rules in
    sym (ap goes_up (nil_from_length c.loop-more.rest.now none)) ∙ c.loop-more.invariant
