use Rattle.std.proofs.Common.{drop, ◌≡◌}
use Rattle.miette_lsp.specs.steps.Putting.{with_documents}
use Rattle.miette_sarif.specs.views.Findings.{texts_of}
use Rattle.miette_lsp.proofs.documents.push_each.Given as goal

abbrev pub invariant-loop-list : goal.invariant-loop-list
invariant-loop-list l = with_documents (texts_of l.left) (drop l.list-index l.lists) l.json
    ≡ with_documents (texts_of l.uris) l.lists l.fn.json
