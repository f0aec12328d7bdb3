use Rattle.std.proofs.Common.{ℕ, List, ◌<◌, ◌∙◌, ap, arith, length, sym}
use Rattle.std.proofs.lemmas.List.{length-drop}
use Rattle.bstr.specs.Utf8.{decoded, or_replacement}
use Rattle.miette_read_shellcheck.proofs.ColumnSteps.{ended, line_ends, next_character, none_left}
use Rattle.miette_read_shellcheck.proofs.columns.characters_after.Goals as goal

pub returns-then-left-eq0 : goal.returns-then-left-eq0
returns-then-left-eq0 c =
    let l = c.loop-at in
    sym (l.invariant.same ∙ none_left c.args.bytes.now l.at l.left c.if-left-eq0.true)

pub decode_first_char-code-requires : goal.decode_first_char-code-requires
decode_first_char-code-requires c =
    omega (arith, ap length c.rest_from-rest.ensures, length-drop c.loop-at.at c.args.bytes.now, c.loop-at-test.true)

pub returns-then-code-eq10 : goal.returns-then-code-eq10
returns-then-code-eq10 c =
    let l = c.loop-at in
    let first = c.decode_first_char-code in
    let rest = c.rest_from-rest.ensures in
    let some : 0 < l.left = omega (arith, c.if-left-eq0.false) in
    sym (l.invariant.same
    ∙ line_ends c.args.bytes.now l.at l.left first.result.0 first.result.1 c.loop-at-test.true
    (first.ensures.code ∙ ap (λ (bs : List ℕ). or_replacement (decoded bs).char) rest)
    (first.ensures.size ∙ ap (λ (bs : List ℕ). (decoded bs).size) rest) some c.if-code-eq10.true)

pub loop-at-preserved : goal.loop-at-preserved
loop-at-preserved c =
    let l = c.loop-at in
    let bytes = c.args.bytes.now in
    let first = c.decode_first_char-code in
    let rest = c.rest_from-rest.ensures in
    let some : 0 < l.left = omega (arith, c.if-left-eq0.false) in
    record {
      within = omega (
        arith,
        first.ensures.within,
        ap length rest,
        length-drop l.at bytes,
        c.loop-at-test.true,
      );
      same = l.invariant.same
          ∙ next_character bytes l.at l.left first.result.0 first.result.1 c.loop-at-test.true
          (first.ensures.code ∙ ap (λ (bs : List ℕ). or_replacement (decoded bs).char) rest)
          (first.ensures.size ∙ ap (λ (bs : List ℕ). (decoded bs).size) rest) some c.if-code-eq10.false;
    }

pub returns : goal.returns
returns c =
    let l = c.loop-at in
    sym (l.invariant.same ∙ ended c.args.bytes.now l.at l.left c.loop-at-test.false)
