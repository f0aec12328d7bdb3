-- The open documents.
use Rattle.std.specs.Prelude.{ℕ, ℤ, List, [], ◌∷◌, Option, bytes_eq, codes, find, if◌then◌else◌, option_and_then}
use Rattle.std.specs.Prelude.{option_map}
use Rattle.serde_json.specs.Data.{Data}
use Rattle.miette_language_server.specs.rules.Changes.{apply_changes}
use Rattle.miette_language_server.specs.rules.Members.{integer_at, items_at, text_at}

-- a document: its URI, its version if the client gave one, and its text
pub record OpenDocument : Type 0 where
  pub uri : List ℕ
  pub version : Option ℤ
  pub text : List ℕ

-- the open documents with one added; it replaces the one with the same URI
abbrev pub with_document : List OpenDocument → OpenDocument → List OpenDocument
with_document [] document = document ∷ []
with_document (d ∷ ds) document = if bytes_eq d.uri document.uri then document ∷ ds else d ∷ with_document ds document

-- the open documents without this one
abbrev pub without : List OpenDocument → List ℕ → List OpenDocument
without [] uri = []
without (d ∷ ds) uri = if bytes_eq d.uri uri then ds else d ∷ without ds uri

abbrev pub document_at : List OpenDocument → List ℕ → Option OpenDocument
document_at ds uri = find (λ d. bytes_eq d.uri uri) ds

-- ---- in a message

abbrev pub uri_in : Data → Option (List ℕ)
uri_in d = text_at (codes "/params/textDocument/uri") d

abbrev pub version_in : Data → Option ℤ
version_in d = integer_at (codes "/params/textDocument/version") d

-- the document in a message, if it is open
abbrev pub document_in : List OpenDocument → Data → Option OpenDocument
document_in ds d = option_and_then (document_at ds) (uri_in d)

-- the document that a message opens
abbrev pub document_opened_in : Data → Option OpenDocument
document_opened_in d = option_and_then (λ uri. option_map (λ text. record {
  uri = uri;
  version = version_in d;
  text
      = text;
})
    (text_at (codes "/params/textDocument/text") d)) (uri_in d)

-- a document with the changes of a message
abbrev pub document_changed_in : OpenDocument → Data → OpenDocument
document_changed_in document d = record {
  uri = document.uri;
  version = version_in d;
  text = apply_changes document.text (items_at (codes "/params/contentChanges") d);
}
