use Rattle.std.proofs.Common.{◌≡◌, ◌<◌, ◌+◌, ◌∙◌, ◌&&◌, ◌==◌, ap, arith, drop, length, nat_lt, sym}
use Rattle.miette_runs.specs.rules.Cells.{width}
use Rattle.miette_text.specs.rules.Wrapping.{is_alphanumeric}
use Rattle.miette_text.specs.steps.Ends.{begins_word, part_len}
use Rattle.miette_text.specs.views.Cutting.{word_cuts}
use Rattle.miette_text.proofs.PartSteps.{columns-more, part-all, part-cut, part-goes, part-stops, part-wide}
use Rattle.miette_text.proofs.wrapping.word_parts.part_after.Goals as goal

pub rest-init : goal.rest-init
rest-init g c = record { len = λ separator. omega arith; columns = omega arith; within = omega arith }

pub returns-then-is_stop-clause-len : goal.returns-then-is_stop-clause-len
returns-then-is_stop-clause-len g c = λ separator.
    let cs = g.C.Codes.codes c.args.codes in
    let cuts = word_cuts separator c.args.cuts in
    let stop = g.T.WordEnd.stop in
    let inside : c.rest.i < length cs = omega (arith, c.count-n.ensures, c.rest-test.true) in
    part-stops stop cuts (part_len stop cuts c.args.first c.args.columns cs) c.rest.before c.rest.used cs c.rest.i
    c.at-code.result inside c.at-code.ensures (sym c.is_stop.ensures ∙ c.if-is_stop.true)
    (c.rest.invariant.len separator)

pub returns-then-is_wide-clause-len : goal.returns-then-is_wide-clause-len
returns-then-is_wide-clause-len g c = λ separator.
    let cs = g.C.Codes.codes c.args.codes in
    let cuts = word_cuts separator c.args.cuts in
    let stop = g.T.WordEnd.stop in
    let inside : c.rest.i < length cs = omega (arith, c.count-n.ensures, c.rest-test.true) in
    let both : c.in_ok-both.both ≡ c.rest.used + width c.at-code.result = c.in_ok-both.ensures
    ∙ ap (λ n. c.rest.used + n) c.char_columns.ensures in
    part-wide stop cuts (part_len stop cuts c.args.first c.args.columns cs) c.rest.before c.rest.used cs c.rest.i
    c.at-code.result inside c.at-code.ensures (sym c.is_stop.ensures ∙ c.if-is_stop.false)
    (ap (λ n. cuts.break_words && (nat_lt 0 c.rest.used && nat_lt cuts.narrow n)) (sym both)
    ∙ sym c.is_wide.ensures ∙ c.if-is_wide.true) (c.rest.invariant.len separator)

pub returns-then-is_cut-clause-len : goal.returns-then-is_cut-clause-len
returns-then-is_cut-clause-len g c = λ separator.
    let cs = g.C.Codes.codes c.args.codes in
    let cuts = word_cuts separator c.args.cuts in
    let stop = g.T.WordEnd.stop in
    let inside : c.rest.i < length cs = omega (arith, c.count-n.ensures, c.rest-test.true) in
    let both : c.in_ok-both.both ≡ c.rest.used + width c.at-code.result = c.in_ok-both.ensures
    ∙ ap (λ n. c.rest.used + n) c.char_columns.ensures in
    part-cut stop cuts (part_len stop cuts c.args.first c.args.columns cs) c.rest.before c.rest.used cs c.rest.i
    c.at-code.result inside c.at-code.ensures (sym c.is_stop.ensures ∙ c.if-is_stop.false)
    (ap (λ n. cuts.break_words && (nat_lt 0 c.rest.used && nat_lt cuts.narrow n)) (sym both)
    ∙ sym c.is_wide.ensures ∙ c.if-is_wide.false)
    (ap (λ xs. cuts.split_hyphens && ((c.at-code.result == 45) && is_alphanumeric c.rest.before && begins_word xs))
    (sym c.from.ensures) ∙ sym c.is_cut.ensures ∙ c.if-is_cut.true) (c.rest.invariant.len separator)

pub returns-then-is_cut-clause-columns : goal.returns-then-is_cut-clause-columns
returns-then-is_cut-clause-columns g c =
    let cs = g.C.Codes.codes c.args.codes in
    let inside : c.rest.i < length cs = omega (arith, c.count-n.ensures, c.rest-test.true) in
    omega (
      arith,
      c.in_ok-both.ensures,
      c.char_columns.ensures,
      c.rest.invariant.columns,
      columns-more cs c.rest.i c.at-code.result inside c.at-code.ensures,
    )

pub rest-preserved : goal.rest-preserved
rest-preserved g c =
    let cs = g.C.Codes.codes c.args.codes in
    let inside : c.rest.i < length cs = omega (arith, c.count-n.ensures, c.rest-test.true) in
    let both : c.in_ok-both.both ≡ c.rest.used + width c.at-code.result = c.in_ok-both.ensures
    ∙ ap (λ n. c.rest.used + n) c.char_columns.ensures in
    let stop = g.T.WordEnd.stop in
    record {
      len = λ separator.
          let cuts = word_cuts separator c.args.cuts in
          part-goes stop cuts (part_len stop cuts c.args.first c.args.columns cs) c.rest.before c.rest.used cs
          c.rest.i c.at-code.result inside c.at-code.ensures (sym c.is_stop.ensures ∙ c.if-is_stop.false)
          (ap (λ n. cuts.break_words && (nat_lt 0 c.rest.used && nat_lt cuts.narrow n)) (sym both)
          ∙ sym c.is_wide.ensures ∙ c.if-is_wide.false)
          (ap (λ xs. cuts.split_hyphens && ((c.at-code.result == 45) && is_alphanumeric c.rest.before
          && begins_word xs))
          (sym c.from.ensures) ∙ sym c.is_cut.ensures ∙ c.if-is_cut.false) (c.rest.invariant.len separator)
          ∙ ap (λ n. (c.rest.i + 1) + part_len stop cuts c.at-code.result n (drop (c.rest.i + 1) cs)) (sym both);
      columns = omega (
        arith,
        both,
        c.rest.invariant.columns,
        columns-more cs c.rest.i c.at-code.result inside c.at-code.ensures,
      );
      within = omega (arith, inside);
    }

pub returns-clause-len : goal.returns-clause-len
returns-clause-len g c = λ separator.
    let cs = g.C.Codes.codes c.args.codes in
    let cuts = word_cuts separator c.args.cuts in
    let stop = g.T.WordEnd.stop in
    part-all stop cuts (part_len stop cuts c.args.first c.args.columns cs) c.rest.before c.rest.used cs c.rest.i
    (omega (arith, c.count-n.ensures, c.rest-test.false)) (c.rest.invariant.len separator)
