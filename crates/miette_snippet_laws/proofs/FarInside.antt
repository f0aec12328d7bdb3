-- A line that is left out lies far inside each label in whose context it is.
use Rattle.std.proofs.Common.{ℕ, ◌-◌, ◌<◌, ◌≡◌, Bool, true, false, ltb, leb, not, ◌&&◌, List, [], ◌∷◌, Some, refl}
use Rattle.std.proofs.Common.{arith}
use Rattle.std.specs.List.{list_any, AllByRecursion}
use Rattle.std.proofs.lemmas.Bool.{and_parts, ltb-true, not-true, or_parts}
use Rattle.miette_lines.specs.rules.Lines.{line_of}
use Rattle.miette_protocol.specs.views.Meaning.{Label}
use Rattle.miette_protocol.specs.rules.Reading.{Span}
use Rattle.miette_labels.specs.rules.Around.{label_context}
use Rattle.miette_snippet_rules.specs.rules.FoldedLabels.{hides, last_byte}
use Rattle.miette_snippet_rules.specs.rules.Snippets as N
use Rattle.miette_snippet_laws.specs.laws.Folding.{IsFarInside}

hidden_where : (b h : Bool) → (b && not h) ≡ false → b ≡ true → h ≡ true
hidden_where true true off t = refl
hidden_where true false off t = let bad : true ≡ false = off in cc
hidden_where false h off t = let bad : false ≡ true = t in cc

far_inside : (limit c : ℕ) (bytes : List ℕ) (span : Span) (k : ℕ) → N.is_in_folded_context limit c bytes k span ≡ false
    → IsFarInside c bytes k span
far_inside limit c bytes span k off = λ t.
    let first : ℕ = line_of bytes span.offset in
    let last : ℕ = line_of bytes (last_byte bytes span) in
    let h : hides limit first last c k ≡ true =
    hidden_where (N.is_in_context c bytes k span) (hides limit first last c k) off t in
    let parts = and_parts (leb limit (last - first)) (ltb c (k - first) && ltb c (last - k)) h in
    let both = and_parts (ltb c (k - first)) (ltb c (last - k)) parts.1 in
    let after : c < k - first = ltb-true c (k - first) both.0 in
    let before : c < last - k = ltb-true c (last - k) both.1 in (omega (arith, after), omega (arith, before))

each_far : (limit context : ℕ) (bytes : List ℕ) (all labels : List Label) (k : ℕ)
    → list_any (λ label. N.is_in_folded_context limit (label_context context all label) bytes k label.span) labels
    ≡ false → AllByRecursion (λ label. IsFarInside (label_context context all label) bytes k label.span) labels
each_far limit context bytes all [] k off = tt
each_far limit context bytes all (label ∷ labels) k off =
    let both = or_parts (N.is_in_folded_context limit (label_context context all label) bytes k label.span)
    (list_any (λ l. N.is_in_folded_context limit (label_context context all l) bytes k l.span) labels) off in (
      far_inside limit (label_context context all label) bytes label.span k both.0,
      each_far limit context bytes all labels k both.1,
    )

pub left_far : (limit context : ℕ) (bytes : List ℕ) (labels : List Label) (k : ℕ)
    → N.is_left_out (Some limit) context bytes labels k ≡ true
    → AllByRecursion (λ label. IsFarInside (label_context context labels label) bytes k label.span) labels
left_far limit context bytes labels k out =
    let kept : Bool = N.is_kept (Some limit) context bytes labels k in
    let fold : Bool = N.is_in_some_fold limit context bytes labels k in
    let both = and_parts (N.is_context_line context bytes labels k) (not kept) out in
    let none = or_parts fold (N.is_alone limit context bytes labels k) (not-true kept both.1) in
    each_far limit context bytes labels labels k none.0
