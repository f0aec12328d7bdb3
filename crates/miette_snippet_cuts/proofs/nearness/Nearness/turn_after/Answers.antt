use Rattle.std.proofs.Common.{◌∙◌, sym}
use Rattle.miette_snippet_cuts.proofs.NearEnds.{met_within, turned_first, turned_met, turned_unmet}
use Rattle.miette_snippet_cuts.proofs.nearness.Nearness.turn_after.Goals as goal

pub turn_by-requires-clause-ahead : goal.turn_by-requires-clause-ahead
turn_by-requires-clause-ahead c =
    met_within (record { room = c.self.inside.room; ends = c.self.inside.ends.now }) c.args.self.now c.args.column
    c.in-Some.end c.self.view_is c.in-Some.ensures.found

pub returns-in-Some-clause-alike : goal.returns-in-Some-clause-alike
returns-in-Some-clause-alike c =
    turned_met (record { room = c.self.inside.room; ends = c.self.inside.ends.now }) c.args.self.now c.args.column
    c.in-Some.end c.turn_by.result.1 c.turn_by.result.0 c.self.view_is
    (sym c.is_empty.ensures ∙ c.if-is_empty.false) c.self.invariant.ascending c.in-Some.ensures.found
    c.turn_by.ensures.reached c.turn_by.ensures.alike

pub returns-in-None-clause-alike : goal.returns-in-None-clause-alike
returns-in-None-clause-alike c =
    turned_unmet (record { room = c.self.inside.room; ends = c.self.inside.ends.now }) c.args.self.now c.args.column
    c.args.len c.self.view_is (sym c.is_empty.ensures ∙ c.if-is_empty.false) c.self.invariant.ascending
    c.in-None.ensures.found

pub returns-then-is_empty-clause-alike : goal.returns-then-is_empty-clause-alike
returns-then-is_empty-clause-alike c =
    turned_first (record { room = c.self.inside.room; ends = c.self.inside.ends.now }) c.args.self.now c.args.column
    c.turn_at.result.1 c.turn_at.result.0 c.self.view_is (sym c.is_empty.ensures ∙ c.if-is_empty.true)
    c.turn_at.ensures.alike
