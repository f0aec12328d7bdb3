-- The lists of the code, as the helper definitions represent them.
use Rattle.miette_sarif.specs.views.Findings.{texts_of}
use Rattle.miette_lsp.specs.declared.documents.DocumentLists.{DocumentLists}
use Rattle.miette_lsp.specs.steps.Putting.{Lists}

abbrev pub document_lists_of : DocumentLists → Lists
document_lists_of it = record { uris = texts_of it.uris.keys; lists = it.lists.items }
