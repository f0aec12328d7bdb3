use Rattle.std.proofs.Common.{Option, ◌≡◌, ◌++◌, ◌∙◌, refl, sym, subst, string_bytes, rules, arith}
use Rattle.miette_lines.specs.declared.lines.LineOfText.{LineOfText}
use Rattle.miette_lines.specs.views.Walking.{GivesLine}
use Rattle.miette_narrated.specs.declared.label_order.LabelOrder.{LabelOrder}
use Rattle.miette_narrated.specs.rules.Lines.{narrated_line_rows}
use Rattle.miette_narrated.specs.steps.Conversions.{ranges_of, narrated_line}
use Rattle.miette_narrated.specs.steps.Ends.{IsOrder}
use Rattle.miette_narrated.proofs.Lining.{left_first, left_more, left_none}
use Rattle.miette_narrated.proofs.lines.push_lines.Goals as goal

pub loop-line-init : goal.loop-line-init
loop-line-init c = record {
  left = left_first (ranges_of c.args.walk.now.order.placed.now) c.args.contents.now _ _
      (string_bytes c.args.out.now) (search rules) (search rules);
  order = refl;
  at = c.requires.at;
}

pub narrated_line-it-requires : goal.narrated_line-it-requires
narrated_line-it-requires c =
    let l = c.loop-line in
    let given = subst (λ (r : Option LineOfText). GivesLine l.line-iterator r c.next.new.self) c.in-Some.is
    c.next.ensures.steps in
    record {
      from = omega (arith, given.0.from, l.invariant.left.from);
      text = given.0.text;
      to = omega (arith, given.0.ending, given.0.to, l.invariant.left.to);
      small = c.requires.small;
    }

pub push_shown-requires-clause-order : goal.push_shown-requires-clause-order
push_shown-requires-clause-order c =
    subst (λ (o : LabelOrder). IsOrder o) (sym c.loop-line.invariant.order) c.requires.order

pub loop-line-preserved : goal.loop-line-preserved
loop-line-preserved c =
    let l = c.loop-line in
    let contents = c.args.contents.now in
    let told = ranges_of c.args.walk.now.order.placed.now in
    let given = subst (λ (r : Option LineOfText). GivesLine l.line-iterator r c.next.new.self) c.in-Some.is
    c.next.ensures.steps in
    record {
      left = left_more told contents l.before c.in_ok-number.number l.line-iterator c.next.new.self c.in-Some.line _
          (narrated_line c.narrated_line-it.result) (string_bytes l.out) (string_bytes c.push_shown.new.out) _
          l.invariant.left
          given.0 given.1 c.in_ok-number.ensures (search rules) c.narrated_line-it.ensures
          (subst (λ (o : LabelOrder). string_bytes c.push_shown.new.out ≡ string_bytes l.out
          ++ narrated_line_rows (ranges_of o.placed.now) (narrated_line c.narrated_line-it.result)) l.invariant.order
          c.in_ok-push_shown.ensures.rows);
      order = c.push_shown.ensures.order ∙ l.invariant.order;
      at = c.in_ok-push_shown.ensures.at;
    }

pub returns-clause-rows : goal.returns-clause-rows
returns-clause-rows c =
    let l = c.loop-line in
    let told = ranges_of c.args.walk.now.order.placed.now in
    let given = subst (λ (r : Option LineOfText). GivesLine l.line-iterator r c.next.new.self) c.in-None.is
    c.next.ensures.steps in
    left_none told c.args.contents.now l.before l.line-iterator (string_bytes l.out) _ l.invariant.left given.0
