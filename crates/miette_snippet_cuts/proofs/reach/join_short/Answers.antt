use Rattle.std.proofs.Common.{◌≡◌, ◌∷◌, ◌++◌, ◌∙◌, ap, sym, arith, rules}
use Rattle.std.proofs.lemmas.Grind.{common_steps}
use Rattle.miette_snippet_rules.specs.declared.line_part.LinePart.{LinePart}
use Rattle.miette_snippet_cuts.specs.steps.LineParts.{made_with_short, prepend_made}
use Rattle.miette_snippet_cuts.proofs.Reaching.{short_end, short_more}
use Rattle.miette_snippet_cuts.proofs.reach.join_short.Goals as goal

pub loop-part-init : goal.loop-part-init
loop-part-init c =
    let front : c.args.line_parts.now ≡ c.in-Some.first.now ∷ c.in-Some.later.now =
    first_of (search rules, cc, grind (arith, common_steps)) in
    ap (λ xs. xs ++ prepend_made c.show_if_short-reached.result (made_with_short c.args.dots c.in-Some.later.now))
    c.new-made.ensures.items
    ∙ ap (λ (s : LinePart). prepend_made s (made_with_short c.args.dots c.in-Some.later.now))
    c.show_if_short-reached.ensures
    ∙ ap (made_with_short c.args.dots) (sym front)

pub loop-part-preserved : goal.loop-part-preserved
loop-part-preserved c =
    short_more c.args.dots c.in-Some.later.now c.loop-part.part-index _ c.loop-part.made.items
    c.push_line_part.new.made.items _ c.loop-part.reached c.show_if_short-next.result c.push_line_part.new.reached
    c.loop-part-test.true c.show_if_short-next.ensures c.in_ok-push_line_part.ensures.put c.loop-part.invariant

pub returns : goal.returns
returns c =
    short_end c.args.dots c.in-Some.later.now c.loop-part.part-index c.loop-part.made.items
    c.push.new.self.items _ c.loop-part.reached c.loop-part-test.false c.in_ok-push.ensures.items
    c.loop-part.invariant
