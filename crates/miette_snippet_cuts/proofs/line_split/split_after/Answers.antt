use Rattle.std.proofs.Common.{◌≡◌, ◌∷◌, ◌++◌, ◌∙◌, [], map, ap, rules}
use Rattle.miette_columns.specs.views.Walking.{cell_of}
use Rattle.miette_snippet_rules.specs.rules.CutLines.{is_near_after, line_parts}
use Rattle.miette_snippet_rules.specs.views.Cuts.{measure}
use Rattle.miette_snippet_cuts.specs.steps.LineParts.{lone, prepend_made}
use Rattle.miette_snippet_cuts.specs.steps.Nearness.{LineEnds, near_by}
use Rattle.miette_snippet_cuts.proofs.PlainStretches.{plain_put, puts_plain}
use Rattle.miette_snippet_cuts.proofs.CutStretches.{stretch_more, stretches_end}
use Rattle.miette_snippet_cuts.proofs.line_split.split_after.Goals as goal

pub loop-made-init : goal.loop-made-init
loop-made-init c =
    let value : LineEnds = c.args.nearness.now in
    record {
      nearness = c.in_ok-push_plain_parts.ensures.same;
      made = plain_put value.room value.ends c.in_ok-plain.plain c.args.walk c.pass_plain.new.self
          c.new-made.result.items c.push_plain_parts.new.made.items _ c.args.first c.push_plain_parts.new.reached
          c.in_ok-plain.ensures.passed c.in_ok-push_plain_parts.ensures.put
          (ap (λ xs. xs ++ prepend_made c.args.first (map measure (line_parts (near_by value.room value.ends)
          c.args.first.shown c.args.walk))) c.new-made.ensures.items);
    }

pub loop-made-preserved : goal.loop-made-preserved
loop-made-preserved c =
    let value : LineEnds = c.args.nearness.now in
    let step : c.loop-made.walk ≡ cell_of c.in-Some.cell ∷ c.next.new.self = search rules in
    let same : c.lone_part-next.new.nearness ≡ value = c.lone_part-next.ensures.same
    ∙ c.loop-made.invariant.nearness in
    let next : c.lone_part-next.result ≡ lone (is_near_after (near_by value.room value.ends)
    c.loop-made.reached.shown (cell_of c.in-Some.cell)) (cell_of c.in-Some.cell) = c.lone_part-next.ensures.lone
    ∙ ap (λ (v : LineEnds). lone (is_near_after (near_by v.room v.ends) c.loop-made.reached.shown
    (cell_of c.in-Some.cell)) (cell_of c.in-Some.cell)) c.loop-made.invariant.nearness in
    record {
      nearness = c.in_ok-push_plain_parts-2.ensures.same ∙ same;
      made = plain_put value.room value.ends c.in_ok-plain-2.plain c.next.new.self c.pass_plain-in-Some.new.self
          c.push_line_part.new.made.items c.push_plain_parts-in-Some.new.made.items _ c.push_line_part.new.reached
          c.push_plain_parts-in-Some.new.reached c.in_ok-plain-2.ensures.passed
          (puts_plain c.lone_part-next.new.nearness value c.in_ok-plain-2.plain c.push_line_part.new.made.items
          c.push_plain_parts-in-Some.new.made.items c.push_line_part.new.reached c.push_plain_parts-in-Some.new.reached
          same
          c.in_ok-push_plain_parts-2.ensures.put)
          (stretch_more (near_by value.room value.ends) (cell_of c.in-Some.cell) c.loop-made.walk c.next.new.self
          c.loop-made.made.items c.push_line_part.new.made.items _ c.loop-made.reached c.lone_part-next.result
          c.push_line_part.new.reached step next c.in_ok-push_line_part.ensures.shown c.in_ok-push_line_part.ensures.put
          c.loop-made.invariant.made);
    }

pub returns : goal.returns
returns c =
    let value : LineEnds = c.args.nearness.now in
    let done : c.loop-made.walk ≡ [] = search rules in
    stretches_end (near_by value.room value.ends) c.loop-made.walk c.loop-made.made.items c.push.new.self.items _
    c.loop-made.reached done c.in_ok-push.ensures.items c.loop-made.invariant.made
