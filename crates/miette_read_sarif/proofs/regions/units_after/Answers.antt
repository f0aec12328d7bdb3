use Rattle.std.proofs.Common.{ℕ, List, ◌+◌, ◌-◌, ◌<◌, ◌≤◌, true, false, ap, length, sym, ◌∙◌, arith}
use Rattle.bstr.specs.Utf8.{decoded, or_replacement}
use Rattle.std.proofs.lemmas.Bool.{le-ltb, lt-ltb}
use Rattle.std.proofs.lemmas.List.{length-drop}
use Rattle.miette_positions.specs.rules.Stops.{units}
use Rattle.miette_read_sarif.specs.rules.Regions.{units_after}
use Rattle.miette_read_sarif.proofs.UnitSteps.{ended, first_of, made, none_ended, taken}
use Rattle.miette_read_sarif.proofs.regions.units_after.Goals as goal

pub decode_first_char-code-requires : goal.decode_first_char-code-requires
decode_first_char-code-requires c =
    omega (arith, ap length c.rest_from-rest.ensures, length-drop c.loop-at.at c.args.bytes.now, c.loop-at-test.true)

pub returns-then-left-wide-clause-value : goal.returns-then-left-wide-clause-value
returns-then-left-wide-clause-value c =
    let l = c.loop-at in
    let code = c.decode_first_char-code.result.0 in
    let size = c.decode_first_char-code.result.1 in
    let e = c.args.encoding in
    let bytes = c.args.bytes.now in
    let wide = units e (made code size) in
    let first = first_of e bytes l.at l.left code size c.loop-at-test.true
    (c.decode_first_char-code.ensures.code
    ∙ ap (λ (l : List ℕ). or_replacement (decoded l).char) c.rest_from-rest.ensures)
    (c.decode_first_char-code.ensures.size ∙ ap (λ (l : List ℕ). (decoded l).size) c.rest_from-rest.ensures) in
    let few : l.left < wide = omega (arith, c.units-wide.ensures, c.if-left-wide.true) in
    sym (l.invariant.same ∙ taken e bytes l.at l.left code size true (lt-ltb l.left wide few) first)

pub loop-at-preserved : goal.loop-at-preserved
loop-at-preserved c =
    let l = c.loop-at in
    let code = c.decode_first_char-code.result.0 in
    let size = c.decode_first_char-code.result.1 in
    let e = c.args.encoding in
    let bytes = c.args.bytes.now in
    let wide = units e (made code size) in
    let first = first_of e bytes l.at l.left code size c.loop-at-test.true
    (c.decode_first_char-code.ensures.code
    ∙ ap (λ (l : List ℕ). or_replacement (decoded l).char) c.rest_from-rest.ensures)
    (c.decode_first_char-code.ensures.size ∙ ap (λ (l : List ℕ). (decoded l).size) c.rest_from-rest.ensures) in
    let many : wide ≤ l.left = omega (arith, c.units-wide.ensures, c.if-left-wide.false) in
    record {
      within = omega (
        arith,
        c.decode_first_char-code.ensures.within,
        ap length c.rest_from-rest.ensures,
        length-drop l.at bytes,
        c.loop-at-test.true,
      );
      same = l.invariant.same ∙ taken e bytes l.at l.left code size false (le-ltb l.left wide many) first
          ∙ ap (λ n. units_after e bytes (l.at + size) (l.left - n)) (sym c.units-wide.ensures);
    }

pub returns-then-left-eq0-clause-value : goal.returns-then-left-eq0-clause-value
returns-then-left-eq0-clause-value c =
    let l = c.loop-at in
    sym (l.invariant.same ∙ ap (units_after c.args.encoding c.args.bytes.now l.at) c.if-left-eq0.true
    ∙ ended c.args.encoding c.args.bytes.now l.at 0 c.loop-at-test.false)

pub returns-else-left-eq0-clause-value : goal.returns-else-left-eq0-clause-value
returns-else-left-eq0-clause-value c =
    let l = c.loop-at in
    sym (l.invariant.same ∙ none_ended c.args.encoding c.args.bytes.now l.at l.left c.loop-at-test.false
    (omega (arith, c.if-left-eq0.false)))
