-- Diagnostics written to the lists of their sources, and documents written of these.
use Rattle.std.specs.Prelude.{◌≡◌, ◌<◌, ℕ, List, [], ◌∷◌, ◌++◌, length, Bool, true, ◌&&◌, not, if◌then◌else◌, map}
use Rattle.std.specs.Prelude.{slice_get, Some, is_some, codes}
use Rattle.std.specs.List.{list_any}
use Rattle.std.specs.Str.{bytes_eq}
use Rattle.indexmap.specs.IndexSet.{insert_key}
use Rattle.miette_lines.specs.rules.Lists.{is_nil}
use Rattle.miette_json.specs.rules.Json.{Json, string}
use Rattle.miette_json.specs.rules.Writing.{JsonPrefix, closed, empty_prefix, opened, with_items, with_key, with_value}
use Rattle.miette_json.specs.rules.Writing.{with_written}
use Rattle.miette_sarif.specs.rules.Findings.{Finding, SarifLocation}
use Rattle.miette_sarif.specs.rules.Objects.{items_of}
use Rattle.miette_lsp.specs.rules.Documents.{diagnostics_at, finding_uris}

-- a label with a source and a text
abbrev pub is_related : SarifLocation → Bool
is_related m = not (is_nil m.text) && is_some m.place

-- values written as the items of a list, by themselves
abbrev pub items_alone : List Json → JsonPrefix
items_alone vs = with_items (items_of vs) empty_prefix

-- URIs, and what is written of the diagnostics of each
pub record Lists : Type 0 where
  pub uris : List (List ℕ)
  pub lists : List JsonPrefix

-- the lists are those of these findings
pub record AreLists (tool untitled : List ℕ) (fs : List Finding) (it : Lists) : Type 0 where
  pub uris : it.uris ≡ finding_uris untitled fs
  pub lists : it.lists ≡ map (λ uri. items_alone (diagnostics_at tool untitled fs uri)) (finding_uris untitled fs)

-- the lists, with an empty one added for a new URI
abbrev pub with_new_list : List (List ℕ) → List ℕ → List JsonPrefix → List JsonPrefix
with_new_list uris uri lists = if list_any (bytes_eq uri) uris then lists else lists ++ empty_prefix ∷ []

-- the list of a URI is at this index; an empty one was added for a new URI
pub record IsAt (uri : List ℕ) (at : ℕ) (old new : Lists) : Type 0 where
  pub found : List ℕ
  pub is_there : slice_get new.uris at ≡ Some found
  pub same : bytes_eq uri found ≡ true
  pub within : at < length new.lists
  pub uris : new.uris ≡ insert_key bytes_eq old.uris uri
  pub lists : new.lists ≡ with_new_list old.uris uri old.lists

-- the lists are those of some findings
pub record AreSomeLists (tool untitled : List ℕ) (it : Lists) : Type 0 where
  pub findings : List Finding
  pub are : AreLists tool untitled findings it

-- a document with the items of its list
abbrev pub with_document : List ℕ → JsonPrefix → JsonPrefix → JsonPrefix
with_document uri list p =
    closed 125 (closed 93 (with_written list (opened 91 (with_key (codes "diagnostics")
    (with_value (string uri) (with_key (codes "uri") (opened 123 p)))))))

-- a document for each URI with its list
abbrev pub with_documents : List (List ℕ) → List JsonPrefix → JsonPrefix → JsonPrefix
with_documents [] lists p = p
with_documents (uri ∷ uris) [] p = p
with_documents (uri ∷ uris) (list ∷ lists) p = with_documents uris lists (with_document uri list p)
