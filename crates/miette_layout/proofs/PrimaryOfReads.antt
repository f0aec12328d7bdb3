-- The primary label among labels that were read, and the rows of groups one after the other.
use Rattle.std.proofs.Common.{ℕ, Bool, ◌≡◌, true, false, cond, List, [], ◌∷◌, map, Option, Some, None, refl, sym, ap}
use Rattle.std.proofs.Common.{◌∙◌, subst, arith, All, unwrap_or}
use Rattle.std.proofs.lemmas.List.Elements.{All-tail}
use Rattle.std.specs.List.{filter}
use Rattle.std.specs.Option.{option_map}
use Rattle.miette_protocol.specs.views.Meaning.{Label}
use Rattle.miette_protocol.specs.rules.Reading.{Span, Source, IsInBounds}
use Rattle.miette_labels.specs.declared.primary.Place.{Place as Found}
use Rattle.miette_labels.specs.declared.primary.Place.TheVariants as places
use Rattle.miette_labels.specs.declared.reading.ReadLabel.{ReadLabel}
use Rattle.miette_labels.specs.rules.Around.{has_own_context}
use Rattle.miette_labels.specs.rules.Contexts.{contents}
use Rattle.miette_snippet_rules.specs.rules.Frames.{Place}
use Rattle.miette_labels.specs.views.ProgramLabels.{label_at}
use Rattle.miette_snippet_rules.specs.rules.SnippetLayout.{belongs_to, first_marked, primary_of, start_of_label}
use Rattle.miette_snippet_rules.specs.rules.SnippetLayout.{place_of}
use Rattle.miette_labels.specs.views.Primary.{lies_within, chosen_label, PointsTo, begins_of, is_unread}
use Rattle.miette_labels.specs.views.Reads.{IsRead}
use Rattle.miette_lines.proofs.Cases.{by_cases}
use Rattle.miette_labels.proofs.RefusedLabel.{read_of}

-- the span of the first label that is marked, else of the first one that was found
abbrev marked : Option Span → List Label → Option Span
marked first [] = first
marked first (l ∷ ls) = cond l.primary (Some l.span) (marked (Some (unwrap_or first l.span)) ls)

marked_first : (first : Label) (ls : List Label) → marked (Some first.span) ls ≡ Some (first_marked first ls).span
marked_first first [] = refl
marked_first first (l ∷ ls) =
    by_cases {C = marked (Some first.span) (l ∷ ls) ≡ Some (first_marked first (l ∷ ls)).span} l.primary
    (λ t. rw t refl) (λ f. rw f (marked_first first ls))

marked_primary : (ls : List Label) → marked None ls ≡ option_map (λ l. l.span) (primary_of ls)
marked_primary [] = refl
marked_primary (l ∷ ls) =
    by_cases {C = marked None (l ∷ ls) ≡ option_map (λ k. k.span) (primary_of (l ∷ ls))} l.primary (λ t. rw t refl)
    (λ f. rw f (marked_first l ls))

chosen_marked : (context : ℕ) (source : Source) (labels : List Label) (own : Bool) (group : Span) (first : Option Span)
    (reads : List ReadLabel) → All (IsRead context source labels) reads →
    chosen_label own group first reads ≡ marked first (filter (belongs_to own group) (map (read_of labels) reads))
chosen_marked context source labels own group first [] h = refl
chosen_marked context source labels own group first (r ∷ rs) h =
    let mine : IsRead context source labels r = h 0 r (omega arith) in
    let later : All (IsRead context source labels) rs = All-tail (IsRead context source labels) r rs h in
    let l : Label = label_at labels r.index in
    let within : belongs_to own group l ≡ lies_within own group r.span = ap (lies_within own group) (sym mine.span) in
    by_cases {C = chosen_label own group first (r ∷ rs) ≡ marked first
    (filter (belongs_to own group) (map (read_of labels) (r ∷ rs)))} (lies_within own group r.span)
    (λ t. let u : belongs_to own group l ≡ true = within ∙ t in
    rw (t, u) (ap (λ b. cond b (Some r.span) (chosen_label own group (Some (unwrap_or first r.span)) rs)) mine.primary
    ∙ ap (λ s. cond l.primary (Some s) (chosen_label own group (Some (unwrap_or first s)) rs)) mine.span
    ∙ ap (cond l.primary (Some l.span)) (chosen_marked context source labels own group (Some (unwrap_or first l.span))
    rs later)))
    (λ f. let u : belongs_to own group l ≡ false = within ∙ f in
    rw (f, u) (chosen_marked context source labels own group first rs later))

-- the chosen span is that of the primary label
pub chosen_is : (context : ℕ) (source : Source) (labels : List Label) (own : Bool) (group : Span)
    (reads : List ReadLabel) → All (IsRead context source labels) reads →
    chosen_label own group None reads ≡ option_map (λ l. l.span)
    (primary_of (filter (belongs_to own group) (map (read_of labels) reads)))
chosen_is context source labels own group reads h =
    chosen_marked context source labels own group None reads h
    ∙ marked_primary (filter (belongs_to own group) (map (read_of labels) reads))

abbrev IfAccepted : List ℕ → Option Span → Type 0
IfAccepted bytes None = Unit {0}
IfAccepted bytes (Some span) = IsInBounds bytes span

accepted_else : (bytes : List ℕ) (first : Option Span) (span : Span) → IfAccepted bytes first → IsInBounds bytes span
    → IsInBounds bytes (unwrap_or first span)
accepted_else bytes None span h mine = mine
accepted_else bytes (Some first) span h mine = h

chosen_accepted : (context : ℕ) (source : Source) (labels : List Label) (own : Bool) (group : Span)
    (first : Option Span) (reads : List ReadLabel) → IfAccepted source.bytes first
    → All (IsRead context source labels) reads →
    IfAccepted source.bytes (chosen_label own group first reads)
chosen_accepted context source labels own group first [] k h = k
chosen_accepted context source labels own group first (r ∷ rs) k h =
    let mine : IsRead context source labels r = h 0 r (omega arith) in
    let later : All (IsRead context source labels) rs = All-tail (IsRead context source labels) r rs h in
    by_cases {C = IfAccepted source.bytes (chosen_label own group first (r ∷ rs))} (lies_within own group r.span)
    (λ t. by_cases {C = IfAccepted source.bytes (chosen_label own group first (r ∷ rs))} r.primary
    (λ u. rw (t, u) mine.accepted)
    (λ g. rw (t, g) (chosen_accepted context source labels own group (Some (unwrap_or first r.span)) rs
    (accepted_else source.bytes first r.span k mine.accepted) later)))
    (λ f. rw f (chosen_accepted context source labels own group first rs k later))

-- a place that can't be read is one of a source that may fail
unread_of : (source : Source) (span : Option Span) (found : Found) → IfAccepted source.bytes span
    → PointsTo source span found → is_unread found ≡ true → source.always_reads ≡ false
unread_of source None found k p u = let bad : is_unread places.Nowhere ≡ true = ap is_unread (sym p) ∙ u in cc
unread_of source (Some span) places.Nowhere k p u = absurd p
unread_of source (Some span) (places.At line column) k p u = cc
unread_of source (Some span) places.Unread k p u = p k

pub unread_fails : (context : ℕ) (source : Source) (labels : List Label) (own : Bool) (group : Span)
    (reads : List ReadLabel) (found : Found) → All (IsRead context source labels) reads →
    PointsTo source (chosen_label own group None reads) found → is_unread found ≡ true → source.always_reads ≡ false
unread_fails context source labels own group reads found h p u =
    unread_of source (chosen_label own group None reads) found
    (chosen_accepted context source labels own group None reads tt h) p u

-- a place that was read is that of the definition
abbrev pub framed_place : Found → Option Place
framed_place found = option_map (λ p. record { line = p.0; column = p.1 }) (begins_of found)

place_from : (source : Source) (label : Option Label) (found : Found)
    → PointsTo source (option_map (λ l. l.span) label) found → is_unread found ≡ false → framed_place found
    ≡ option_map (start_of_label source) label
place_from source None found p u = ap framed_place p
place_from source (Some label) places.Nowhere p u = absurd p
place_from source (Some label) (places.At line column) p u =
    ap (λ n. Some (record { line = n; column = column })) p.1
    ∙ ap (λ n. Some (record { line = (contents 0 source label.span).line; column = n })) p.2
place_from source (Some label) places.Unread p u = cc

pub place_is : (context : ℕ) (source : Source) (labels : List Label) (own : Bool) (group : Span)
    (reads : List ReadLabel) (found : Found) → own ≡ has_own_context (map (read_of labels) reads)
    → All (IsRead context source labels) reads →
    PointsTo source (chosen_label own group None reads) found → is_unread found ≡ false → framed_place found
    ≡ place_of source group (map (read_of labels) reads)
place_is context source labels own group reads found which h p u =
    place_from source (primary_of (filter (belongs_to own group) (map (read_of labels) reads))) found
    (subst (λ (o : Option Span). PointsTo source o found) (chosen_is context source labels own group reads h) p) u
    ∙ ap (λ b. option_map (start_of_label source) (primary_of (filter (belongs_to b group)
    (map (read_of labels) reads))))
    which
