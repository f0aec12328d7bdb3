use Rattle.std.proofs.Common.{◌∙◌, sym}
use Rattle.miette_columns.specs.views.Walking.{cell_of}
use Rattle.miette_snippet_cuts.proofs.NearEnds.{near_first, near_met, near_unmet}
use Rattle.miette_snippet_cuts.proofs.nearness.Nearness.is_near.Goals as goal

pub returns-in-Some-clause-near : goal.returns-in-Some-clause-near
returns-in-Some-clause-near c =
    near_met (record { room = c.self.inside.room; ends = c.self.inside.ends.now }) c.args.self.now
    (cell_of c.args.cell.now) c.in-Some.end c.is_within_of.result c.self.view_is
    (sym c.is_empty.ensures ∙ c.if-is_empty.false) c.self.invariant.ascending c.in-Some.ensures.found
    c.is_within_of.ensures

pub returns-in-None-clause-near : goal.returns-in-None-clause-near
returns-in-None-clause-near c =
    near_unmet (record { room = c.self.inside.room; ends = c.self.inside.ends.now }) c.args.self.now
    (cell_of c.args.cell.now) c.self.view_is
    (sym c.is_empty.ensures ∙ c.if-is_empty.false) c.self.invariant.ascending c.in-None.ensures.found

pub returns-then-is_empty-clause-near : goal.returns-then-is_empty-clause-near
returns-then-is_empty-clause-near c =
    near_first (record { room = c.self.inside.room; ends = c.self.inside.ends.now }) c.args.self.now
    (cell_of c.args.cell.now) c.has_room_in.result c.self.view_is (sym c.is_empty.ensures ∙ c.if-is_empty.true)
    c.has_room_in.ensures
