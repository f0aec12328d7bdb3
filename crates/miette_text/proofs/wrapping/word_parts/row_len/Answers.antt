use Rattle.std.proofs.Common.{◌≡◌, ◌∙◌, ◌+◌, ◌&&◌, nat_lt, true, false, length, length-drop, drop, drop-drop}
use Rattle.std.proofs.Common.{ℕ, List, sym, ap, arith, subst, take}
use Rattle.std.proofs.lemmas.Bool.Decides.{nat_tests}
use Rattle.miette_runs.specs.steps.Cells.{code_columns}
use Rattle.miette_text.specs.views.Cutting.{word_cuts}
use Rattle.miette_text.proofs.FirstRow.{part-here, row-ends, row-fits, row-whole}
use Rattle.miette_text.proofs.wrapping.word_parts.row_len.Goals as goal
use Rattle.miette_text.proofs.wrapping.word_parts.row_len.Goals.{else-end-gt0-via-then-end-gt0+else-room-wide}
use Rattle.miette_text.proofs.wrapping.word_parts.row_len.Goals.{else-end-gt0-via-else-end-gt0}

-- how many columns are used with the letters of a part
wide-is : (used n columns wide : ℕ) (codes rest : List ℕ) → wide ≡ used + columns → columns ≡ code_columns (take n rest)
    → rest ≡ codes → wide ≡ used + code_columns (take n codes)
wide-is used n columns wide codes rest sum is same =
    sum ∙ ap (λ k. used + k) (is ∙ ap (λ xs. code_columns (take n xs)) same)

pub part-requires-clause-fits : goal.part-requires-clause-fits
part-requires-clause-fits g c = subst (λ xs. g.W.WordParts.fits c.rest.words xs) (sym c.from.ensures)
    c.rest.invariant.fits

pub part-requires-clause-some : goal.part-requires-clause-some
part-requires-clause-some g c = omega (
  arith,
  ap length c.from.ensures,
  length-drop c.rest.end (g.C.Codes.codes c.args.codes),
  c.count-n.ensures,
  c.rest-test.true,
)

pub returns-then-room-wide-clause-value : goal.returns-then-room-wide-clause-value
returns-then-room-wide-clause-value g c = λ cells further e.
    let cuts = word_cuts g.W.WordParts.separator c.args.cuts in
    let cs = g.C.Codes.codes c.args.codes in
    let s = c.rest.end in
    let n = c.in_ok-part.part.letters.len in
    let left = g.W.WordParts.left c.rest.words cuts in
    let after = g.W.WordParts.left c.in_ok-part.after cuts in
    let w = wide-is c.rest.used n _ _ _ _ c.in_ok-wide.ensures c.in_ok-part.ensures.columns c.from.ensures in
    let t : (nat_lt 0 s && nat_lt c.args.room c.in_ok-wide.wide) ≡ true =
    (let a = c.if-end-gt0.true in let b = c.if-room-wide.true in grind (arith, nat_tests)) in
    row-ends (g.W.WordParts.left c.args.first cuts) left after c.args.room further s n c.in_ok-part.part.spaces
    c.rest.used c.in_ok-wide.wide cells cs e (omega (arith, c.count-n.ensures, c.rest-test.true))
    (part-here left after s n c.in_ok-part.part.spaces cs (g.C.Codes.codes c.from.result) c.from.ensures
    c.in_ok-part.ensures.is) w t
    (c.rest.invariant.packed cells further e)

pub rest-preserved : goal.rest-preserved
rest-preserved g c =
    let cuts = word_cuts g.W.WordParts.separator c.args.cuts in
    let cs = g.C.Codes.codes c.args.codes in
    let s = c.rest.end in
    let n = c.in_ok-part.part.letters.len in
    let m = c.in_ok-part.part.spaces in
    let left = g.W.WordParts.left c.rest.words cuts in
    let after = g.W.WordParts.left c.in_ok-part.after cuts in
    let w = wide-is c.rest.used n _ _ _ _ c.in_ok-wide.ensures c.in_ok-part.ensures.columns c.from.ensures in
    let gap : code_columns (take m (drop n (drop s cs))) ≡ m =
    ap (λ xs. code_columns (take m (drop n xs))) (sym c.from.ensures) ∙ c.in_ok-part.ensures.gap in
    let t : (nat_lt 0 s && nat_lt c.args.room c.in_ok-wide.wide) ≡ false =
    elim c.else-end-gt0.branch [
      | else-end-gt0-via-then-end-gt0+else-room-wide v ↦
          (let a = v.if-room-wide.false in grind (arith, nat_tests))
      | else-end-gt0-via-else-end-gt0 v ↦
          (let a = v.if-end-gt0.false in grind (arith, nat_tests))
    ] in
    record {
      packed = λ cells further e.
          c.rest.invariant.packed cells further e
          ∙ row-fits left after c.args.room further s n m c.rest.used c.in_ok-wide.wide c.in_ok-used.used cells cs e
          (part-here left after s n m cs (g.C.Codes.codes c.from.result) c.from.ensures c.in_ok-part.ensures.is)
          gap w t c.in_ok-used.ensures c.in_ok-part.ensures.some;
      fits = subst (λ xs. g.W.WordParts.fits c.in_ok-part.after xs)
          (ap (drop (n + m)) c.from.ensures ∙ drop-drop (n + m) s cs ∙ ap (λ k. drop k cs) (omega arith))
          c.in_ok-part.ensures.fits;
      within = omega (arith, c.in_ok-part.ensures.within, ap length c.from.ensures, length-drop s cs);
    }

pub returns-clause-value : goal.returns-clause-value
returns-clause-value g c = λ cells further e.
    let cuts = word_cuts g.W.WordParts.separator c.args.cuts in
    row-whole (g.W.WordParts.left c.args.first cuts) (g.W.WordParts.left c.rest.words cuts) c.args.room further
    c.rest.end
    c.rest.used cells (g.C.Codes.codes c.args.codes) (g.met.W.WordParts.nothing c.rest.words cuts) e
    (omega (arith, c.count-n.ensures, c.rest-test.false))
    (c.rest.invariant.packed cells further e)
