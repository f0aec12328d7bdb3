-- A highlighter that answers no pieces.
use Rattle.std.proofs.Common.{ℕ, Bool, List, [], ◌∷◌, refl}
use Rattle.miette_protocol.specs.rules.Reading.{Source, Span}
use Rattle.miette_labels.specs.rules.Contexts.{contents, lines_of_contents}
use Rattle.miette_snippet_rules.specs.rules.Highlighting.{EachHasPieces, SnippetsHavePieces, texts_of}

none_each : (blank : Bool) (texts : List (List ℕ)) → EachHasPieces blank texts []
none_each blank [] = tt
none_each blank (text ∷ texts) = (record { cut = λ some. absurd (some refl); none = λ b. refl }, none_each blank texts)

pub none_have : (context : ℕ) (blank : Bool) (source : Source) (groups : List Span)
    → SnippetsHavePieces context blank source groups []
none_have context blank source [] = tt
none_have context blank source (group ∷ groups) = (
  none_each blank (texts_of source.bytes (lines_of_contents (contents context source group))),
  none_have context blank source groups,
)
