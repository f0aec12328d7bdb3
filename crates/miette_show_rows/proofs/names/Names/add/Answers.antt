use Rattle.std.proofs.Common.{ℕ, List, ◌∷◌, [], OnOk, subst}
use Rattle.miette_fixes.specs.rules.Edits.{FixModel}
use Rattle.miette_show_rows.specs.rules.ApplicableFixes.{FileFixes}
use Rattle.miette_show_rows.specs.views.Holding.{AddsFixes}
use Rattle.miette_show_rows.proofs.names.Names.add.Goals as goal

abbrev with_fixes : List ℕ → List FixModel → FileFixes
with_fixes name fixes = record { name = name; fixes = fixes }

pub returns : goal.returns
returns c =
    subst (λ (fixes : List FixModel). OnOk c.add.result
    (AddsFixes c.args.self.now.table c.add.new.self (with_fixes c.args.name.now fixes ∷ []))) c.new.ensures.items
    c.add.ensures
