use Rattle.std.proofs.Common.{◌≡◌, ◌∙◌, ap, arith, chars}
use Rattle.miette_runs.specs.rules.Sequences.{tokens}
use Rattle.miette_text.specs.steps.WholeText.{are_passed, front_len}
use Rattle.miette_text.proofs.PassedFronts.{front_passed}
use Rattle.miette_text.proofs.wrapping.blank_lines.after_front.Goals as goal

pub range_from-rest-requires : goal.range_from-rest-requires
range_from-rest-requires c =
    let n = c.front_len-len.result in
    let is : n ≡ front_len c.args.blanks c.rest.rest.now = c.front_len-len.ensures.value
    ∙ ap (front_len c.args.blanks) c.as_bytes.ensures.value in
    let front = front_passed c.args.blanks c.rest.rest.now n c.rest.invariant.text (omega arith) (omega arith) is in
    λ _. front.boundary

pub rest-preserved : goal.rest-preserved
rest-preserved c =
    let n = c.front_len-len.result in
    let is : n ≡ front_len c.args.blanks c.rest.rest.now = c.front_len-len.ensures.value
    ∙ ap (front_len c.args.blanks) c.as_bytes.ensures.value in
    let front = front_passed c.args.blanks c.rest.rest.now n c.rest.invariant.text (omega arith) (omega arith) is in
    record {
      told = ap (λ bs. are_passed c.args.blanks (tokens (chars bs))) c.range_from-rest.ensures.value ∙ front.same
          ∙ c.rest.invariant.told;
      text = c.range_from-rest.utf8;
    }
