-- The labels of a diagnostic over all of its sources, and the primary one among them.
use Rattle.std.proofs.Common.{◌≡◌, ℕ, suc, ◌+◌, ◌<◌, ◌≤◌, Bool, true, false, cond, List, [], ◌∷◌, ◌++◌, refl, sym}
use Rattle.std.proofs.Common.{ap, ap₂, ◌∙◌, subst, arith, append_assoc, append-nil, add-one, length, get_or, map, drop}
use Rattle.std.proofs.Common.{Option, Some, None}
use Rattle.std.specs.Prelude.{nat_lt, not, position, slice_get, is_some, unwrap_or, ◌&&◌, IfSome}
use Rattle.std.specs.List.{position_from, prefix_len}
use Rattle.std.proofs.Math.Seq.{drop-cons}
use Rattle.std.specs.Option.{option_map_or}
use Rattle.std.proofs.lemmas.Bool.{ltb-true, ltb-false}
use Rattle.std.proofs.lemmas.List.{drop_all, length-map}
use Rattle.std.proofs.lemmas.Option.{slice_get_past}
use Rattle.miette_lines.proofs.Cases.{by_cases}
use Rattle.miette_protocol.specs.rules.Reading.{Source, Span}
use Rattle.miette_protocol.specs.views.Meaning.{Label}
use Rattle.miette_tree.specs.rules.Diagnosis.{Diagnosis, Section}
use Rattle.miette_tree.specs.rules.DiagnosticParts.{given_labels}
use Rattle.miette_labels.specs.rules.Groups.{in_order}
use Rattle.miette_brief.specs.rules.LocatedLabels.{LocatedLabel, located_label, further_labels, marks, else_at}
use Rattle.miette_brief.specs.rules.LocatedLabels.{is_placed, is_marked}
use Rattle.miette_brief.specs.rules.LocatedLabels.{primary_at}
use Rattle.miette_brief.specs.rules.Locations.{SpanInSource, span_in_source, else_span, marked_in, first_in}
use Rattle.miette_brief.specs.rules.Locations.{found_further}
use Rattle.miette_brief.specs.rules.Locations.{primary_span}
use Rattle.miette_brief.specs.steps.PrimaryLabels.{span_of_label, span_at}
use Rattle.miette_brief.proofs.Choosing.{else_assoc, left_at, sections_left}

-- ---- labels, one after the other

pub marks_more : {X : Type 0} (f : Label → LocatedLabel) (label : X → Label) (xs : List X) (i : ℕ) (d : X)
    (here : Label)
    (now new goal : List LocatedLabel) → i < length xs → here ≡ label (get_or xs i d) → new ≡ now ++ f here ∷ []
    → now ++ map f (map label (drop i xs)) ≡ goal → new ++ map f (map label (drop (i + 1) xs)) ≡ goal
marks_more f label xs i d here now new goal lt is e h =
    let later = map f (map label (drop (suc i) xs)) in
    ap (λ k. new ++ map f (map label (drop k xs))) (add-one i) ∙ ap (λ l. l ++ later) e
    ∙ append_assoc now (f here ∷ []) later
    ∙ ap (λ ls. now ++ map f ls) (sym (left_at label xs i d here lt is)) ∙ h

pub marks_end : {X : Type 0} (f : Label → LocatedLabel) (label : X → Label) (xs : List X) (i : ℕ)
    (now goal : List LocatedLabel)
    → length xs ≤ i → now ++ map f (map label (drop i xs)) ≡ goal → now ≡ goal
marks_end f label xs i now goal le h = sym (append-nil now)
    ∙ ap (λ ys. now ++ map f (map label ys)) (sym (drop_all i xs le)) ∙ h

module _ {X : Type 0} (value : X → Section) (xs : List X) (i : ℕ) where
  pub sections_more : (d : X) (source : Source) (labels : List Label) (now new goal : List LocatedLabel) → i < length xs
      → d ≡ get_or xs i d → source ≡ (value d).source → labels ≡ (value d).labels
      → new ≡ now ++ map (located_label (Some source)) (in_order labels)
      → now ++ further_labels (map value (drop i xs)) ≡ goal
      → new ++ further_labels (map value (drop (i + 1) xs)) ≡ goal
  sections_more d source labels now new goal lt is es el e h =
      let here = map (located_label (Some (value d).source)) (in_order (value d).labels) in
      let later = further_labels (map value (drop (i + 1) xs)) in
      let put : new ≡ now ++ here =
      e ∙ ap₂ (λ s ls. now ++ map (located_label (Some s)) (in_order ls)) es el in
      ap (λ l. l ++ later) put ∙ append_assoc now here later
      ∙ ap (λ ss. now ++ further_labels ss) (sym (sections_left value xs i d lt is)) ∙ h

  pub sections_end : (now goal : List LocatedLabel) → length xs ≤ i → now ++ further_labels (map value (drop i xs))
      ≡ goal
      → now ≡ goal
  sections_end now goal end h = sym (append-nil now)
      ∙ ap (λ ys. now ++ further_labels (map value ys)) (sym (drop_all i xs end)) ∙ h

-- ---- the first that passes a test

abbrev failing : {X : Type 0} → (X → Bool) → List X → ℕ
failing p xs = prefix_len (λ x. not (p x)) xs

-- after an element that fails
pub from_later : {X Y : Type 0} (p : Y → Bool) (f : X → Y) (xs : List X) (i : ℕ) (x : X) (at : ℕ) (goal : Option ℕ)
    → i < length xs → x ≡ get_or xs i x → p (f x) ≡ false → position_from p at (map f (drop i xs)) ≡ goal
    → position_from p (at + 1) (map f (drop (i + 1) xs)) ≡ goal
from_later p f xs i x at goal lt is fails h =
    ap (λ k. position_from p (at + 1) (map f (drop k xs))) (add-one i)
    ∙ sym (ap (λ b. cond b (Some at) (position_from p (at + 1) (map f (drop (suc i) xs)))) fails)
    ∙ ap (λ ys. position_from p at (map f ys)) (sym (drop-cons xs i x lt ∙ ap (λ y. y ∷ drop (suc i) xs) (sym is))) ∙ h

-- at one that passes
pub from_here : {X Y : Type 0} (p : Y → Bool) (f : X → Y) (xs : List X) (i : ℕ) (x : X) (at : ℕ) (goal : Option ℕ)
    → i < length xs → x ≡ get_or xs i x → p (f x) ≡ true → position_from p at (map f (drop i xs)) ≡ goal
    → Some at ≡ goal
from_here p f xs i x at goal lt is passes h =
    sym (ap (λ b. cond b (Some at) (position_from p (at + 1) (map f (drop (suc i) xs)))) passes)
    ∙ ap (λ ys. position_from p at (map f ys)) (sym (drop-cons xs i x lt ∙ ap (λ y. y ∷ drop (suc i) xs) (sym is))) ∙ h

-- after the last one
pub from_none : {X Y : Type 0} (p : Y → Bool) (f : X → Y) (xs : List X) (i at : ℕ) (goal : Option ℕ) → length xs ≤ i
    → position_from p at (map f (drop i xs)) ≡ goal → None ≡ goal
from_none p f xs i at goal le h = ap (λ ys. position_from p at (map f ys)) (sym (drop_all i xs le)) ∙ h

found_inside : (n k m at : ℕ) (b : Bool) → nat_lt n k ≡ b → Some at ≡ cond b (Some n) None → k ≡ m → at < m
found_inside n k m at false t g e = cc
found_inside n k m at true t g e =
    let same : at ≡ n = ap (λ o. unwrap_or o 0) g in
    let low : n < k = ltb-true n k t in
    omega (arith, same, e, low)

position_inside : {X Y : Type 0} (p : Y → Bool) (f : X → Y) (xs : List X) (o : Option ℕ)
    → o ≡ position p (map f xs) → IfSome o (λ at. at < length xs)
position_inside p f xs None e = tt
position_inside p f xs (Some at) e =
    let ys = map f xs in
    found_inside (failing p ys) (length ys) (length xs) at (nat_lt (failing p ys) (length ys)) refl e (length-map xs f)

either_inside : (n : ℕ) (a b : Option ℕ) → IfSome a (λ at. at < n) → IfSome b (λ at. at < n)
    → IfSome (else_at a b) (λ at. at < n)
either_inside n None b h k = k
either_inside n (Some at) b h k = h

-- the primary label is one of the labels
pub primary_inside : {X : Type 0} (f : X → LocatedLabel) (xs : List X) (o : Option ℕ) → o ≡ primary_at (map f xs)
    → IfSome o (λ at. at < length xs)
primary_inside f xs o e =
    subst (λ (i : Option ℕ). IfSome i (λ at. at < length xs)) (sym e)
    (either_inside (length xs) (position is_marked (map f xs)) (position is_placed (map f xs))
    (position_inside is_marked f xs (position is_marked (map f xs)) refl)
    (position_inside is_placed f xs (position is_placed (map f xs)) refl))

abbrev first_spot : (LocatedLabel → Bool) → List LocatedLabel → Option SpanInSource
first_spot p [] = None
first_spot p (x ∷ xs) = cond (p x) (span_of_label x) (first_spot p xs)

abbrev spot_in : List LocatedLabel → ℕ → Option SpanInSource
spot_in xs n = option_map_or span_of_label (slice_get xs n) None

one_found : (x : LocatedLabel) (xs : List LocatedLabel) (n : ℕ) (later : Option SpanInSource) (b : Bool) → spot_in xs n
    ≡ later
    → spot_in (x ∷ xs) (cond (not b) (1 + n) 0) ≡ cond b (span_of_label x) later
one_found x xs n later true h = refl
one_found x xs n later false h = (let e : 1 + n ≡ suc n = omega arith in ap (spot_in (x ∷ xs)) e ∙ h)

found_at : (p : LocatedLabel → Bool) (xs : List LocatedLabel) → spot_in xs (failing p xs) ≡ first_spot p xs
found_at p [] = refl
found_at p (x ∷ xs) = one_found x xs (failing p xs) (first_spot p xs) (p x) (found_at p xs)

none_found : (p : LocatedLabel → Bool) (xs : List LocatedLabel) → length xs ≤ failing p xs → first_spot p xs ≡ None
none_found p xs h = sym (found_at p xs)
    ∙ ap (λ o. option_map_or span_of_label o None) (slice_get_past xs (failing p xs) h)

placed_there : (o : Option Source) (span : Span) (other : Option SpanInSource) → is_some o ≡ true
    → else_span (span_in_source o (Some span)) other ≡ span_in_source o (Some span)
placed_there None span other h = cc
placed_there (Some s) span other h = refl

one_there : (p : LocatedLabel → Bool) (placed : (x : LocatedLabel) → p x ≡ true → is_placed x ≡ true) (x : LocatedLabel)
    (n k : ℕ)
    (later other : Option SpanInSource) (b : Bool) → p x ≡ b → cond (not b) (1 + n) 0 < suc k
    → (n < k → else_span later other ≡ later)
    → else_span (cond b (span_of_label x) later) other ≡ cond b (span_of_label x) later
one_there p placed x n k later other true e h f = placed_there x.source x.label.span other (placed x e)
one_there p placed x n k later other false e h f = f (omega (arith, h))

there : (p : LocatedLabel → Bool) (placed : (x : LocatedLabel) → p x ≡ true → is_placed x ≡ true)
    (xs : List LocatedLabel)
    (other : Option SpanInSource) → failing p xs < length xs → else_span (first_spot p xs) other ≡ first_spot p xs
there p placed [] other h = absurd (omega (arith, h))
there p placed (x ∷ xs) other h = one_there p placed x (failing p xs) (length xs) (first_spot p xs) other (p x) refl h
    (there p placed xs other)

spot_found : (p : LocatedLabel → Bool) (xs : List LocatedLabel) → span_at (position p xs) xs ≡ first_spot p xs
spot_found p xs =
    by_cases {C = span_at (position p xs) xs ≡ first_spot p xs} (nat_lt (failing p xs) (length xs))
    (λ t. rw t (found_at p xs))
    (λ f. rw f (sym (none_found p xs (ltb-false (failing p xs) (length xs) f))))

both_there : (o : Option Source) (b : Bool) → (is_some o && b) ≡ true → is_some o ≡ true
both_there None b e = cc
both_there (Some s) b e = refl

marked_placed : (x : LocatedLabel) → is_marked x ≡ true → is_placed x ≡ true
marked_placed x h = both_there x.source x.label.primary h

spot_chosen : (xs : List LocatedLabel) → span_at (primary_at xs) xs
    ≡ else_span (first_spot is_marked xs) (first_spot is_placed xs)
spot_chosen xs =
    by_cases {C = span_at (primary_at xs) xs ≡ else_span (first_spot is_marked xs) (first_spot is_placed xs)}
    (nat_lt (failing is_marked xs) (length xs))
    (λ t. rw t (found_at is_marked xs ∙ sym (there is_marked marked_placed xs (first_spot is_placed xs)
    (ltb-true (failing is_marked xs) (length xs) t))))
    (λ f. rw f (spot_found is_placed xs ∙ ap (λ o. else_span o (first_spot is_placed xs))
    (sym (none_found is_marked xs (ltb-false (failing is_marked xs) (length xs) f)))))

-- ---- over all sources

no_spot : (source : Option Source) (other : Option SpanInSource) → other ≡ else_span (span_in_source source None) other
no_spot None other = refl
no_spot (Some s) other = refl

one_marked : (s : Source) (span : Span) (chosen : Option Span) (b : Bool) (later rest : Option SpanInSource)
    → later ≡ else_span (span_in_source (Some s) chosen) rest
    → cond b (span_in_source (Some s) (Some span)) later
    ≡ else_span (span_in_source (Some s) (cond b (Some span) chosen)) rest
one_marked s span chosen true later rest h = refl
one_marked s span chosen false later rest h = h

own_marked : (source : Option Source) (labels : List Label) (rest : List LocatedLabel)
    → first_spot is_marked (map (located_label source) labels ++ rest)
    ≡ else_span (span_in_source source (marked_in labels)) (first_spot is_marked rest)
own_marked source [] rest = no_spot source (first_spot is_marked rest)
own_marked None (label ∷ labels) rest = own_marked None labels rest
own_marked (Some s) (label ∷ labels) rest =
    one_marked s label.span (marked_in labels) label.primary _ (first_spot is_marked rest)
    (own_marked (Some s) labels rest)

own_placed : (source : Option Source) (labels : List Label) (rest : List LocatedLabel)
    → first_spot is_placed (map (located_label source) labels ++ rest)
    ≡ else_span (span_in_source source (first_in labels)) (first_spot is_placed rest)
own_placed source [] rest = no_spot source (first_spot is_placed rest)
own_placed None (label ∷ labels) rest = own_placed None labels rest
own_placed (Some s) (label ∷ labels) rest = refl

further_marked : (sections : List Section) → first_spot is_marked (further_labels sections)
    ≡ found_further marked_in sections
further_marked [] = refl
further_marked (section ∷ sections) =
    own_marked (Some section.source) (in_order section.labels) (further_labels sections)
    ∙ ap (else_span (span_in_source (Some section.source) (marked_in (in_order section.labels))))
    (further_marked sections)

further_placed : (sections : List Section) → first_spot is_placed (further_labels sections)
    ≡ found_further first_in sections
further_placed [] = refl
further_placed (section ∷ sections) =
    own_placed (Some section.source) (in_order section.labels) (further_labels sections)
    ∙ ap (else_span (span_in_source (Some section.source) (first_in (in_order section.labels))))
    (further_placed sections)

-- the primary label is that by which a diagnostic is placed
pub primary_is : (source : Option Source) (m : Diagnosis) → span_at (primary_at (marks source m)) (marks source m)
    ≡ primary_span source (in_order (given_labels m.labels)) m.snippets
primary_is source m =
    let labels = in_order (given_labels m.labels) in
    let more = further_labels m.snippets in
    let marked = span_in_source source (marked_in labels) in
    let first = span_in_source source (first_in labels) in
    spot_chosen (marks source m)
    ∙ ap₂ (λ a b. else_span a b)
    (own_marked source labels more ∙ ap (else_span marked) (further_marked m.snippets))
    (own_placed source labels more ∙ ap (else_span first) (further_placed m.snippets))
    ∙ else_assoc marked (found_further marked_in m.snippets)
    (else_span first (found_further first_in m.snippets))
