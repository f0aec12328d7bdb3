use Rattle.std.proofs.Common.{◌≡◌, ◌∷◌, [], rules, subst}
use Rattle.miette_show_rows.specs.rules.ApplicableFixes.{FileFixes}
use Rattle.miette_show_rows.specs.views.Holding.{AddsFixes}
use Rattle.miette_show_rows.proofs.Holds.{adds_none, adds_then}
use Rattle.miette_show_rows.proofs.selected_fixes.add_fixes.Goals as goal

pub loop-it-init : goal.loop-it-init
loop-it-init c = adds_none c.args.gathered.now

pub loop-it-preserved : goal.loop-it-preserved
loop-it-preserved c =
    let l = c.loop-it in
    let one : record { name = c.as_str.result.now; fixes = c.it.inside.fixes.items } ≡ c.in-Some.it = search rules in
    adds_then c.args.gathered.now l.gathered c.add.new.self l.yielded (c.in-Some.it ∷ []) l.invariant
    (subst (λ (it : FileFixes). AddsFixes l.gathered c.add.new.self (it ∷ [])) one c.in_ok-add.ensures)
