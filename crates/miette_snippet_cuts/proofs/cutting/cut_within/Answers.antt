use Rattle.std.proofs.Common.{◌∙◌, List, ℕ, ap, map}
use Rattle.miette_snippet_rules.specs.rules.CutLines.{cut_to}
use Rattle.miette_snippet_rules.specs.rules.PrintedCells.{cells_width}
use Rattle.miette_snippet_rules.specs.views.Cuts.{measure}
use Rattle.miette_snippet_rules.specs.views.LineTexts.{text_cells}
use Rattle.miette_snippet_cuts.proofs.NearEnds.{ends_ascend}
use Rattle.miette_snippet_cuts.proofs.Reaching.{cut_is, cut_none, cut_to_moved}
use Rattle.miette_snippet_cuts.proofs.WindowColumns.{text_stands}
use Rattle.miette_snippet_cuts.proofs.cutting.cut_within.Goals as goal

pub returns : goal.returns
returns c =
    cut_none c.args.limit c.args.dots c.max-most.result c.in_ok-width.width c.args.ends.now
    (text_cells c.args.text.now)
    (c.in_ok-width.ensures ∙ ap (cells_width 0) (c.copy.ensures ∙ c.new-walk.ensures)) c.max-most.ensures
    c.if-most-width.false

pub cut_around-requires : goal.cut_around-requires
cut_around-requires c = record {
  stands = text_stands c.args.text.now c.new-walk.result c.new-walk.ensures;
  ascending = ends_ascend c.sort_unstable.new.self.items c.deref.result.now c.deref.ensures.value
      c.sort_unstable.ensures.sorted;
}

pub returns-then-most-width : goal.returns-then-most-width
returns-then-most-width c =
    let most : ℕ = c.max-most.result in
    let dots : ℕ = c.args.dots in
    let ends : List ℕ = c.args.ends.now in
    cut_is c.args.limit dots most c.in_ok-width.width ends (text_cells c.args.text.now) c.in_ok-made.made.items
    (c.in_ok-width.ensures ∙ ap (cells_width 0) (c.copy.ensures ∙ c.new-walk.ensures)) c.max-most.ensures
    c.if-most-width.true
    (c.in_ok-made.ensures
    ∙ ap (λ es. map measure (cut_to most dots es c.new-walk.result)) c.deref.ensures.value
    ∙ ap (map measure) (cut_to_moved most dots c.in_ok-ascending.ascending.items c.sort_unstable.new.self.items
    c.new-walk.result c.sort_unstable.ensures.permutation)
    ∙ ap (λ es. map measure (cut_to most dots es c.new-walk.result)) c.in_ok-ascending.ensures.items
    ∙ ap (λ cs. map measure (cut_to most dots ends cs)) c.new-walk.ensures)
