use Rattle.std.proofs.Common.{◌∙◌, ap, arith, drop, length, sym, subst, take, reverse}
use Rattle.std.proofs.lemmas.List.{drop_all, length-map, length-take}
use Rattle.miette_fixes.specs.views.Ordered.{edits_of}
use Rattle.miette_fix_rows.specs.rules.Blocks.{blocks}
use Rattle.miette_fix_rows.specs.rules.Hunks.{change_of, changes_of}
use Rattle.miette_fix_rows.specs.steps.Sharing.{IsBlock}
use Rattle.miette_fix_rows.proofs.Sharing.{apart_all, apart_more, blocks_more, changes_more, fit_front, part_is}
use Rattle.miette_fix_rows.proofs.changes.ordered_changes.Goals as goal

pub loop-high-init : goal.loop-high-init
loop-high-init c =
    let ls = c.args.edits.now in
    let n = length-map ls (λ x. x.now) in
    record {
      within = omega arith;
      made = ap reverse c.new-list.ensures.items
          ∙ ap (λ es. changes_of c.args.source.now (blocks c.args.source.now es))
          (sym (drop_all (length ls) (edits_of ls) (omega (arith, n))));
      apart = apart_all c.args.source.now (edits_of ls) (length ls) (omega (arith, n));
    }

pub last_block-block-requires-clause-fit : goal.last_block-block-requires-clause-fit
last_block-block-requires-clause-fit c =
    fit_front (length c.args.source.now) c.loop-high.high c.args.edits.now c.requires

pub block_change-requires : goal.block_change-requires
block_change-requires c =
    let ls = c.args.edits.now in
    subst (λ es. IsBlock c.args.source.now c.last_block-block.result.start c.last_block-block.result.to es)
    (part_is ls c.last_block-block.result.low c.loop-high.high
    (omega (arith, c.last_block-block.ensures.order, length-take c.loop-high.high ls)))
    c.last_block-block.ensures.block

pub loop-high-preserved : goal.loop-high-preserved
loop-high-preserved c =
    let ls = c.args.edits.now in
    let es = edits_of ls in
    let source = c.args.source.now in
    let low = c.last_block-block.result.low in
    let high = c.loop-high.high in
    let n = length-take high ls in
    record {
      within = omega (arith, c.last_block-block.ensures.order, n);
      made = changes_more source (drop low (edits_of (take high ls))) (drop high es) (drop low es)
          c.in_ok-change.change (reverse c.loop-high.list.items) (reverse c.in_ok-list.list.items)
          (blocks_more source ls low high c.last_block-block.ensures.last c.loop-high.invariant.apart
          c.last_block-block.ensures.order)
          (c.in_ok-change.ensures ∙ ap (change_of source)
          (sym (part_is ls low high (omega (arith, c.last_block-block.ensures.order, n)))))
          c.loop-high.invariant.made c.in_ok-list.ensures;
      apart = apart_more source ls low high c.last_block-block.ensures.last c.loop-high.invariant.apart
          c.last_block-block.ensures.order;
    }
