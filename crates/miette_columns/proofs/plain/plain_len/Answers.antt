use Rattle.std.proofs.Common.{◌≡◌, ◌+◌, ◌-◌, ◌∙◌, ap, take, drop, length, sym, arith}
use Rattle.std.proofs.lemmas.List.{drop-drop, length-drop}
use Rattle.std.specs.List.{list_all, prefix_len}
use Rattle.miette_columns.specs.views.Printable.{is_printable}
use Rattle.miette_columns.proofs.Prefixes.{prefix_passed}
use Rattle.miette_columns.proofs.plain.plain_len.Goals as goal

pub loop-len-preserved : goal.loop-len-preserved
loop-len-preserved c =
    let len = c.loop-len.len in
    let left : length (drop len c.args.bytes.now) ≡ length c.args.bytes.now - len = length-drop len c.args.bytes.now in
    let block : 16 ≡ len + 16 - len = omega arith in
    let more = prefix_passed is_printable 16 (drop len c.args.bytes.now) (omega (arith, left, c.loop-len-test.true))
    (ap (λ n. list_all is_printable (take n (drop len c.args.bytes.now))) block
    ∙ sym c.is_plain_block.ensures ∙ c.if-is_plain_block.true) in
    let later = drop-drop 16 len c.args.bytes.now in
    record {
      within = omega (arith, c.loop-len-test.true, c.loop-len.invariant.within);
      told = omega (arith, ap (prefix_len is_printable) later, more, c.loop-len.invariant.told);
    }
