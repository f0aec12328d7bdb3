use Rattle.std.proofs.Common.{◌≡◌, ◌∙◌, ap, arith}
use Rattle.miette_fix_rows.specs.rules.Blocks.{bytes_of, line_texts}
use Rattle.miette_fix_rows.specs.views.LineLists.{borrowed_lines}
use Rattle.miette_fix_rows.proofs.Parting.{sized_by}
use Rattle.miette_fix_rows.proofs.Texts.{bytes_of_texts}
use Rattle.miette_fix_rows.proofs.changes.text_sizes.Goals as goal

pub sizes_of-requires-clause-old : goal.sizes_of-requires-clause-old
sizes_of-requires-clause-old c =
    let e : borrowed_lines c.deref.result.now ≡ line_texts c.args.old.now =
    ap borrowed_lines c.deref.ensures.value ∙ c.in_ok-olds.ensures in
    omega (arith, c.requires.old, bytes_of_texts c.args.old.now, ap bytes_of e)

pub sizes_of-requires-clause-new : goal.sizes_of-requires-clause-new
sizes_of-requires-clause-new c =
    let e : borrowed_lines c.deref-2.result.now ≡ line_texts c.args.new.now =
    ap borrowed_lines c.deref-2.ensures.value ∙ c.in_ok-news.ensures in
    omega (arith, c.requires.new, bytes_of_texts c.args.new.now, ap bytes_of e)

pub returns : goal.returns
returns c =
    sized_by c.args.old.now c.args.new.now c.deref.result.now c.deref-2.result.now c.sizes_of.result
    (ap borrowed_lines c.deref.ensures.value ∙ c.in_ok-olds.ensures)
    (ap borrowed_lines c.deref-2.ensures.value ∙ c.in_ok-news.ensures) c.sizes_of.ensures
