use Rattle.std.proofs.Common.{◌∙◌, ap}
use Rattle.miette_snippet_cuts.specs.steps.Nearness.{LineEnds, end_ahead}
use Rattle.miette_snippet_cuts.proofs.NearEnds.{passed_start}
use Rattle.miette_snippet_cuts.proofs.nearness.Nearness.end_ahead.Goals as goal

pub passed_at-passed-requires : goal.passed_at-passed-requires
passed_at-passed-requires c = passed_start c.self.inside.room.reach c.self.inside.ends.now c.self.inside.passed
    c.self.inside.column c.args.column c.start_at-start.result c.start_at-start.ensures.anew
    c.start_at-start.ensures.on c.self.invariant.passed

pub invariant_of-self : goal.invariant_of-self
invariant_of-self c = record {
  ascending = c.self.invariant.ascending;
  passed = c.passed_at-passed.ensures.passed;
}

pub returns-clause-found : goal.returns-clause-found
returns-clause-found c = c.passed_at-passed.ensures.found
    ∙ ap (λ (v : LineEnds). end_ahead v.room.reach c.args.column v.ends) c.self.view_is
