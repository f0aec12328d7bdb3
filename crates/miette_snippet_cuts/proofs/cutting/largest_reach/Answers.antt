use Rattle.std.proofs.Common.{◌∙◌, List, ℕ, ap}
use Rattle.miette_snippet_rules.specs.rules.CutLines.{reach_at}
use Rattle.miette_snippet_rules.specs.views.LineTexts.{text_cells}
use Rattle.miette_snippet_cuts.proofs.NearEnds.{ends_ascend}
use Rattle.miette_snippet_cuts.proofs.Reaching.{reach_at_moved}
use Rattle.miette_snippet_cuts.proofs.WindowColumns.{text_stands}
use Rattle.miette_snippet_cuts.proofs.cutting.largest_reach.Goals as goal

pub cut_settings_for-requires : goal.cut_settings_for-requires
cut_settings_for-requires c = record {
  stands = text_stands c.args.text.now c.new-walk.result c.new-walk.ensures;
  ascending = ends_ascend c.sort_unstable.new.self.items c.deref.result.now c.deref.ensures.value
      c.sort_unstable.ensures.sorted;
}

pub returns : goal.returns
returns c =
    let most : ℕ = c.max-most.result in
    let dots : ℕ = c.args.dots in
    let ends : List ℕ = c.args.ends.now in
    c.in_ok-room.ensures.reach
    ∙ ap (λ es. reach_at most dots es c.new-walk.result) c.deref.ensures.value
    ∙ reach_at_moved most dots c.in_ok-ascending.ascending.items c.sort_unstable.new.self.items c.new-walk.result
    c.sort_unstable.ensures.permutation
    ∙ ap (λ es. reach_at most dots es c.new-walk.result) c.in_ok-ascending.ensures.items
    ∙ ap (λ cs. reach_at most dots ends cs) c.new-walk.ensures
    ∙ ap (λ n. reach_at n dots ends (text_cells c.args.text.now)) c.max-most.ensures
