use Rattle.std.proofs.Common.{◌≡◌, ℕ, Option, map, option_map, sym, ap, subst, IfOk}
use Rattle.miette_snippet_rules.specs.rules.CutLines.{cut_line}
use Rattle.miette_snippet_rules.specs.views.Cuts.{measure}
use Rattle.miette_snippet_rules.specs.views.LineTexts.{text_cells}
use Rattle.miette_snippet_cuts.proofs.cutting.cut_long_line.Goals as goal

pub returns : goal.returns
returns c =
    subst (λ (o : Option ℕ). IfOk c.cut_within.result (λ cut. option_map (λ made. made.items) cut
    ≡ option_map (map measure) (cut_line c.args.dots o c.args.ends.now (text_cells c.args.text.now))))
    (sym c.in-Some.is) c.cut_within.ensures

pub returns-in_default : goal.returns-in_default
returns-in_default c =
    ap (λ (o : Option ℕ). option_map (map measure) (cut_line c.args.dots o c.args.ends.now
    (text_cells c.args.text.now)))
    (sym c.in_default.is)
