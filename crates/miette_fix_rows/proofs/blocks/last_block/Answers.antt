use Rattle.std.proofs.Common.{◌≡◌, ◌≤◌, ◌+◌, ◌-◌, ◌∙◌, ◌∷◌, ◌++◌, suc, true, false, leb, drop, take, length, refl, sym}
use Rattle.std.proofs.Common.{ap, ap₂}
use Rattle.std.proofs.Common.{subst, arith}
use Rattle.std.proofs.lemmas.List.{length-map}
use Rattle.miette_lines.specs.rules.Lines.{line_of, line_start}
use Rattle.miette_fixes.specs.rules.Edits.{end_of}
use Rattle.miette_fixes.specs.views.Ordered.{FitFrom, edits_of}
use Rattle.miette_fix_rows.specs.rules.Blocks.{block_from, blocks, touched_from}
use Rattle.miette_fix_rows.specs.steps.Sharing.{EndsApart, IsBlock}
use Rattle.miette_fix_rows.proofs.Sharing.{ends_last, ends_take, ends_within, fit_drop, grow_block, head_at, joined}
use Rattle.miette_fix_rows.proofs.Sharing.{last_at, one_block, block_diff, rest_is}
use Rattle.miette_fix_rows.proofs.blocks.last_block.Goals as goal

pub start_of_line-start-requires : goal.start_of_line-start-requires
start_of_line-start-requires c =
    let ls = c.args.edits.now in
    let within = ends_within (length c.args.source.now) ls (length ls - 1) c.index-edits-edits.result c.requires.fit
    (omega (arith, c.requires.some)) c.index-edits-edits.is in
    omega (arith, c.offset.ensures, within)

pub overflow_add-offset : goal.overflow_add-offset
overflow_add-offset c =
    let ls = c.args.edits.now in
    let within = ends_within (length c.args.source.now) ls (length ls - 1) c.index-edits-edits.result c.requires.fit
    (omega (arith, c.requires.some)) c.index-edits-edits.is in
    omega (arith, c.offset-2.ensures, c.len.ensures, within)

pub end_of_line-to-requires : goal.end_of_line-to-requires
end_of_line-to-requires c =
    let ls = c.args.edits.now in
    let within = ends_within (length c.args.source.now) ls (length ls - 1) c.index-edits-edits.result c.requires.fit
    (omega (arith, c.requires.some)) c.index-edits-edits.is in
    omega (arith, c.offset-2.ensures, c.len.ensures, within)

pub loop-low-init : goal.loop-low-init
loop-low-init c =
    let ls = c.args.edits.now in
    let e = c.index-edits-edits.result.now in
    record {
      low = omega (arith, c.requires.some);
      block = subst (λ es. IsBlock c.args.source.now c.start_of_line-start.result c.end_of_line-to.result es)
          (sym (last_at ls c.index-edits-edits.result c.requires.some c.index-edits-edits.is))
          (one_block c.args.source.now e c.start_of_line-start.result c.end_of_line-to.result c.offset.result
          (c.offset-2.result + c.len.result) c.offset.ensures (ap₂ ◌+◌ c.offset-2.ensures c.len.ensures)
          c.start_of_line-start.ensures.start c.start_of_line-start.ensures.order c.end_of_line-to.ensures.end
          c.end_of_line-to.ensures.order c.end_of_line-to.ensures.within);
      whole = λ later h. ends_last c.args.source.now (edits_of ls) later (length ls - 1)
          (omega (arith, c.requires.some, length-map ls (λ x. x.now))) h;
    }

pub overflow_add-end : goal.overflow_add-end
overflow_add-end c =
    let ls = c.args.edits.now in
    omega (
      arith,
      c.offset-in-loop-low.ensures,
      c.len-in-loop-low.ensures,
      ends_within (length c.args.source.now) ls
          (c.loop-low.low - 1) c.index-edits-low.result c.requires.fit (omega (arith, c.loop-low.invariant.low))
          c.index-edits-low.is,
    )

pub shares-requires : goal.shares-requires
shares-requires c =
    subst (λ es. IsBlock c.args.source.now c.loop-low.start c.end_of_line-to.result es)
    (rest_is c.args.edits.now c.loop-low.low) c.loop-low.invariant.block

pub returns-then-not-shares-clause-last : goal.returns-then-not-shares-clause-last
returns-then-not-shares-clause-last c =
    let ls = c.args.edits.now in
    let es = edits_of ls in
    let low = c.loop-low.low in
    let e = c.index-edits-low.result.now in
    let source = c.args.source.now in
    let d : drop (low - 1) es ≡ e ∷ drop low es =
    head_at ls (low - 1) low c.index-edits-low.result (omega (arith, c.loop-low.invariant.low)) c.index-edits-low.is
    (omega (arith, c.loop-low-test.true)) in
    let f : leb (block_from source (drop low es)) (end_of e) ≡ false =
    ap₂ leb (ap (block_from source) (rest_is ls low))
    (sym (ap₂ ◌+◌ c.offset-in-loop-low.ensures c.len-in-loop-low.ensures))
    ∙ sym c.shares.ensures ∙ c.if-not-shares.true in
    let n : suc (low - 1) ≡ low = omega (arith, c.loop-low-test.true) in
    record {
      whole = c.loop-low.invariant.whole;
      apart = λ later h.
          subst (λ m. EndsApart source (take m es) (drop low es ++ later)) n
          (ends_take source es (low - 1) e (drop low es) (drop low es ++ later) d
          (block_diff source e (drop low es) later f (c.loop-low.invariant.whole later h)));
    }

pub start_before_next-start-requires-clause-known : goal.start_before_next-start-requires-clause-known
start_before_next-start-requires-clause-known c =
    let ls = c.args.edits.now in
    let es = edits_of ls in
    let low = c.loop-low.low in
    let source = c.args.source.now in
    let r = c.index-edits-low-in-loop-low.result in
    let d2 : drop low es ≡ r.now ∷ drop (low + 1) es =
    head_at ls low (low + 1) r c.loop-low.invariant.low c.index-edits-low-in-loop-low.is refl in
    c.loop-low.invariant.block.start ∙ ap (touched_from source) d2
    ∙ ap (λ o. line_start source (line_of source o)) (sym c.offset-in-loop-low-2.ensures)

pub start_before_next-start-requires-clause-order : goal.start_before_next-start-requires-clause-order
start_before_next-start-requires-clause-order c =
    let ls = c.args.edits.now in
    let es = edits_of ls in
    let low = c.loop-low.low in
    let e = c.index-edits-low.result.now in
    let source = c.args.source.now in
    let d : drop (low - 1) es ≡ e ∷ drop low es =
    head_at ls (low - 1) low c.index-edits-low.result (omega (arith, c.loop-low.invariant.low)) c.index-edits-low.is
    (omega (arith, c.loop-low-test.true)) in
    let r = c.index-edits-low-in-loop-low.result in
    let d2 : drop low es ≡ r.now ∷ drop (low + 1) es =
    head_at ls low (low + 1) r c.loop-low.invariant.low c.index-edits-low-in-loop-low.is refl in
    let fit : FitFrom (length source) (end_of e) (drop low es) =
    (fit_drop (length source) 0 es (low - 1) e (drop low es) c.requires.fit d).1 in
    let order = subst (λ es. FitFrom (length source) (end_of e) es) d2 fit in
    let first : end_of e ≤ r.now.span.offset = order.0 in
    omega (arith, c.offset-in-loop-low-2.ensures, c.offset-in-loop-low-3.ensures, first)

pub start_before_next-start-requires-clause-within : goal.start_before_next-start-requires-clause-within
start_before_next-start-requires-clause-within c =
    let ls = c.args.edits.now in
    omega (
      arith,
      c.offset-in-loop-low-2.ensures,
      ends_within (length c.args.source.now) ls c.loop-low.low
          c.index-edits-low-in-loop-low.result c.requires.fit c.loop-low.invariant.low c.index-edits-low-in-loop-low.is,
    )

pub loop-low-preserved : goal.loop-low-preserved
loop-low-preserved c =
    let ls = c.args.edits.now in
    let es = edits_of ls in
    let low = c.loop-low.low in
    let e = c.index-edits-low.result.now in
    let source = c.args.source.now in
    let d : drop (low - 1) es ≡ e ∷ drop low es =
    head_at ls (low - 1) low c.index-edits-low.result (omega (arith, c.loop-low.invariant.low)) c.index-edits-low.is
    (omega (arith, c.loop-low-test.true)) in
    let fit : FitFrom (length source) (end_of e) (drop low es) =
    (fit_drop (length source) 0 es (low - 1) e (drop low es) c.requires.fit d).1 in
    let f : leb (block_from source (drop low es)) (end_of e) ≡ true =
    ap₂ leb (ap (block_from source) (rest_is ls low))
    (sym (ap₂ ◌+◌ c.offset-in-loop-low.ensures c.len-in-loop-low.ensures))
    ∙ sym c.shares.ensures ∙ c.if-not-shares.false in
    record {
      low = omega (arith, c.loop-low.invariant.low);
      block = subst (λ xs. IsBlock source c.start_before_next-start.result c.end_of_line-to.result xs) (sym d)
          (grow_block source e (drop low es) (length source) c.start_before_next-start.result c.loop-low.start
          c.end_of_line-to.result c.loop-low.invariant.block fit
          (c.start_before_next-start.ensures.start
          ∙ ap (λ o. line_start source (line_of source o)) c.offset-in-loop-low-3.ensures)
          (omega (arith, c.start_before_next-start.ensures.before, c.offset-in-loop-low-3.ensures)));
      whole = λ later h.
          subst (λ xs. blocks source (xs ++ later) ≡ xs ∷ blocks source later) (sym d)
          (joined source e (drop low es) later f (c.loop-low.invariant.whole later h));
    }
