use Rattle.std.proofs.Common.{◌∙◌, List, ℕ, ap, map}
use Rattle.miette_snippet_rules.specs.rules.CutLines.{cut_by}
use Rattle.miette_snippet_rules.specs.rules.PrintedCells.{cells_width}
use Rattle.miette_snippet_rules.specs.views.Cuts.{measure}
use Rattle.miette_snippet_rules.specs.views.LineTexts.{text_cells}
use Rattle.miette_snippet_cuts.proofs.NearEnds.{ends_ascend}
use Rattle.miette_snippet_cuts.proofs.Reaching.{cut_by_is, cut_by_moved, cut_by_none, near_cut}
use Rattle.miette_snippet_cuts.proofs.cutting.cut_line_with.Goals as goal

pub returns-then-width-most : goal.returns-then-width-most
returns-then-width-most c =
    let room = c.args.room.now in
    cut_by_none room.limit room.dots room.reach c.max-most.result c.in_ok-width.width c.args.ends.now
    (text_cells c.args.text.now)
    (c.in_ok-width.ensures ∙ ap (cells_width 0) (c.copy.ensures ∙ c.new-walk.ensures)) c.max-most.ensures
    c.if-width-most.true

pub cut_in-requires : goal.cut_in-requires
cut_in-requires c = ends_ascend c.sort_unstable.new.self.items c.deref.result.now c.deref.ensures.value
    c.sort_unstable.ensures.sorted

pub returns : goal.returns
returns c =
    let room = c.args.room.now in
    let most : ℕ = c.max-most.result in
    let ends : List ℕ = c.args.ends.now in
    cut_by_is room.limit room.dots room.reach most c.in_ok-width.width ends (text_cells c.args.text.now)
    c.in_ok-made.made.items
    (c.in_ok-width.ensures ∙ ap (cells_width 0) (c.copy.ensures ∙ c.new-walk.ensures)) c.max-most.ensures
    c.if-width-most.false
    (c.in_ok-made.ensures
    ∙ ap (map measure) (near_cut (record { limit = most; dots = room.dots; reach = room.reach }) c.deref.result.now
    c.new-walk.result)
    ∙ ap (λ es. map measure (cut_by most room.dots room.reach es c.new-walk.result)) c.deref.ensures.value
    ∙ ap (map measure) (cut_by_moved most room.dots room.reach c.in_ok-ascending.ascending.items
    c.sort_unstable.new.self.items c.new-walk.result c.sort_unstable.ensures.permutation)
    ∙ ap (λ es. map measure (cut_by most room.dots room.reach es c.new-walk.result)) c.in_ok-ascending.ensures.items
    ∙ ap (λ cs. map measure (cut_by most room.dots room.reach ends cs)) c.new-walk.ensures)
