use Rattle.std.proofs.Common.{◌-◌, ap, arith, get_or, length}
use Rattle.miette_snippet_folds.proofs.AroundLines.{window_is}
use Rattle.miette_snippet_folds.proofs.extent_index.range_touching.Goals as goal

pub returns : goal.returns
returns c = λ labels h.
    let first = c.many_before-first.result in
    let later = c.many_after-later.result in
    window_is c.args.start c.args.end labels c.args.bounds.now.untils.items c.args.bounds.now.froms.items first later
    c.max.result h
    (omega (arith, c.many_before-first.ensures.few, ap length c.deref.ensures.value))
    (λ some. omega (
      arith,
      c.many_before-first.ensures.until some,
      c.min.ensures,
      ap (λ xs. get_or xs (first - 1) 0) c.deref.ensures.value,
    ))
    (omega (arith, c.many_after-later.ensures.few, ap length c.deref-2.ensures.value))
    (λ some. omega (
      arith,
      c.many_after-later.ensures.from some,
      ap (λ xs. get_or xs (later - 1) 0) c.deref-2.ensures.value,
    ))
    (omega (arith, c.max.ensures, c.saturating_sub.ensures, c.len.ensures))
