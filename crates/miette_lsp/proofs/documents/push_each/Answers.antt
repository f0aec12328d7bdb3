use Rattle.std.proofs.Common.{arith, drop}
use Rattle.std.proofs.lemmas.List.{drop_all}
use Rattle.miette_sarif.specs.views.Findings.{texts_of}
use Rattle.miette_lsp.proofs.Grouping.{no_list}
use Rattle.miette_lsp.proofs.documents.push_each.Goals as goal

pub returns : goal.returns
returns c =
    let l = c.loop-list in
    let lists = c.args.lists.now in
    no_list (texts_of l.left.now) (drop l.list-index lists) l.json _ (drop_all l.list-index lists (omega arith))
    l.invariant
