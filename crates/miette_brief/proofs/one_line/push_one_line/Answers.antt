use Rattle.std.proofs.Common.{arith, ◌≡◌, []}
use Rattle.std.proofs.lemmas.Grind.{common_steps}
use Rattle.std.proofs.lemmas.Str.{IsUtf8-past_char}
use Rattle.miette_brief.proofs.Spacing.{one_more, none_left}
use Rattle.miette_brief.proofs.one_line.push_one_line.Goals as goal

pub loop-c-preserved : goal.loop-c-preserved
loop-c-preserved c = record {
  utf8 = IsUtf8-past_char _ _ _ c.loop-c.invariant.utf8 c.in-Some.ensures.steps.0;
  text = one_more _ _ _ _ _ _ _ c.in-Some.c c.loop-c.invariant.utf8 c.in-Some.ensures.steps.0
      c.in_ok-push_character.ensures c.is_control-goes_on.ensures c.loop-c.invariant.text;
}

pub returns : goal.returns
returns c =
    let empty : c.loop-c.c-iterator.rest.now ≡ [] = grind (arith, common_steps, c.in-None.ensures.steps.0) in
    none_left _ _ _ _ empty c.loop-c.invariant.text
