-- The primary label, and the places that reads of it give.
use Rattle.std.proofs.Common.{ℕ, suc, ◌+◌, ◌≡◌, ◌<◌, ◌≤◌, List, [], ◌∷◌, length, get_or, map, drop, add-one, Bool, true}
use Rattle.std.proofs.Common.{false, cond, ◌&&◌, ◌||◌, Option, Some, None, unwrap_or, refl, sym, ap, ap₂, subst, ◌∙◌}
use Rattle.std.proofs.Common.{arith}
use Rattle.std.proofs.Common.{All}
use Rattle.std.specs.List.{list_all}
use Rattle.std.proofs.Math.Bool.{and-false}
use Rattle.std.proofs.Math.Seq.{drop-cons}
use Rattle.std.proofs.lemmas.Bool.{and_parts}
use Rattle.std.proofs.lemmas.List.{drop_all}
use Rattle.std.proofs.lemmas.List.Elements.{All-head, All-tail}
use Rattle.miette_protocol.specs.rules.Reading.{Source, Span, is_in_bounds}
use Rattle.miette_protocol.specs.views.Meaning.{Label}
use Rattle.miette_tree.specs.rules.Diagnosis.{Section}
use Rattle.miette_tree.specs.rules.Reads.{MayMeet, accepts, further_pass}
use Rattle.miette_tree.proofs.Nesting.{Reads}
use Rattle.miette_labels.specs.rules.Groups.{in_order}
use Rattle.miette_labels.proofs.OwnContexts.{order_all, order_nil}
use Rattle.miette_brief.specs.rules.Rows.{BriefLocation}
use Rattle.miette_brief.specs.rules.Locations.{SpanInSource, marked_in, first_in, span_in_source, else_span}
use Rattle.miette_brief.specs.rules.Locations.{found_further}
use Rattle.miette_brief.specs.rules.Locations.{primary_span}
use Rattle.miette_brief.specs.rules.Locations.{span_location, chosen_location, source_of_span}
use Rattle.miette_brief.specs.declared.primary.PrimaryRead.{PrimaryRead}
use Rattle.miette_brief.specs.declared.primary.PrimaryRead.TheVariants as found
use Rattle.miette_brief.specs.steps.Conversions.{brief_location_of, is_label}
use Rattle.miette_brief.specs.steps.Reads.{IsRefusedRead, IsSourceLocation, IsDiagnosticLocation, IsCauseLocation}
use Rattle.miette_brief.specs.steps.Reads.{IsPrimaryRead}
use Rattle.miette_brief.specs.steps.Reads.{IsSpanUnread, IsSpanAt}
use Rattle.miette_labels.proofs.RefusedLabel.{accepted_is}
use Rattle.miette_brief.proofs.Noting.{true_accepted}

-- ---- of labels, the first that is marked

pub left_at : {X : Type 0} (label : X → Label) (xs : List X) (i : ℕ) (d : X) (here : Label) → i < length xs → here
    ≡ label (get_or xs i d) → map label (drop i xs) ≡ here ∷ map label (drop (suc i) xs)
left_at label xs i d here lt is = ap (map label) (drop-cons xs i d lt)
    ∙ ap (λ l. l ∷ map label (drop (suc i) xs)) (sym is)

-- the span of a label that is marked
pub marked_here : {X : Type 0} (label : X → Label) (xs : List X) (i : ℕ) (d : X) (here : Label) (goal : Option Span)
    → i < length xs → here ≡ label (get_or xs i d)
    → here.primary ≡ true → marked_in (map label (drop i xs)) ≡ goal → Some here.span ≡ goal
marked_here label xs i d here goal lt is p h =
    sym (ap (λ b. cond b (Some here.span) (marked_in (map label (drop (suc i) xs)))) p)
    ∙ ap marked_in (sym (left_at label xs i d here lt is)) ∙ h

pub marked_later : {X : Type 0} (label : X → Label) (xs : List X) (i : ℕ) (d : X) (here : Label) (goal : Option Span)
    → i < length xs → here ≡ label (get_or xs i d)
    → here.primary ≡ false → marked_in (map label (drop i xs)) ≡ goal → marked_in (map label (drop (i + 1) xs)) ≡ goal
marked_later label xs i d here goal lt is p h =
    ap (λ k. marked_in (map label (drop k xs))) (add-one i)
    ∙ sym (ap (λ b. cond b (Some here.span) (marked_in (map label (drop (suc i) xs)))) p)
    ∙ ap marked_in (sym (left_at label xs i d here lt is)) ∙ h

pub marked_none : {X : Type 0} (label : X → Label) (xs : List X) (i : ℕ) (goal : Option Span) → length xs ≤ i
    → marked_in (map label (drop i xs)) ≡ goal → None ≡ goal
marked_none label xs i goal le h = ap (λ ys. marked_in (map label ys)) (sym (drop_all i xs le)) ∙ h

pub first_here : {X : Type 0} (label : X → Label) (xs : List X) (d : X) (span : Span) → (length xs ≡ 0 → ⊥)
    → span ≡ (label (get_or xs 0 d)).span → Some span ≡ first_in (map label xs)
first_here label [] d span n e = absurd (n refl)
first_here label (x ∷ xs) d span n e = ap Some e

pub first_nil : {X : Type 0} (label : X → Label) (xs : List X) → length xs ≡ 0 → None ≡ first_in (map label xs)
first_nil label [] n = refl
first_nil label (x ∷ xs) n = absurd (omega (arith, n))

-- ---- over further sources

pub sections_left : {X : Type 0} (value : X → Section) (xs : List X) (i : ℕ) (d : X) → i < length xs
    → d ≡ get_or xs i d → map value (drop i xs) ≡ value d ∷ map value (drop (i + 1) xs)
sections_left value xs i d lt is =
    ap (map value) (drop-cons xs i d lt ∙ ap (λ x. x ∷ drop (suc i) xs) (sym is))
    ∙ ap (λ k. value d ∷ map value (drop k xs)) (sym (add-one i))

module _ {X : Type 0} (choice : List Label → Option Span) (value : X → Section) (xs : List X) (i : ℕ) where
  chosen_left : (d : X) (labels : List Label) (found : Option Span) → i < length xs → d ≡ get_or xs i d
      → labels ≡ (value d).labels → found ≡ choice (in_order labels)
      → found_further choice (map value (drop i xs)) ≡ else_span (span_in_source (Some (value d).source) found)
      (found_further choice (map value (drop (i + 1) xs)))
  chosen_left d labels found lt is el ef =
      ap (found_further choice) (sections_left value xs i d lt is)
      ∙ ap (λ o. else_span (span_in_source (Some (value d).source) o)
      (found_further choice (map value (drop (i + 1) xs)))) (sym (ef ∙ ap (λ ls. choice (in_order ls)) el))

  pub further_found : (d : X) (source : Source) (labels : List Label) (found : Option Span) (span : Span)
      (goal : Option SpanInSource) → i < length xs → d ≡ get_or xs i d → source ≡ (value d).source
      → labels ≡ (value d).labels → found ≡ choice (in_order labels) → found ≡ Some span
      → found_further choice (map value (drop i xs)) ≡ goal → Some (record { source = source; span = span }) ≡ goal
  further_found d source labels found span goal lt is es el ef e h =
      ap (λ s. Some (record { source = s; span = span })) es
      ∙ sym (ap (λ o. else_span (span_in_source (Some (value d).source) o)
      (found_further choice (map value (drop (i + 1) xs)))) e)
      ∙ sym (chosen_left d labels found lt is el ef) ∙ h

  pub further_later : (d : X) (labels : List Label) (found : Option Span) (goal : Option SpanInSource) → i < length xs
      → d ≡ get_or xs i d → labels ≡ (value d).labels → found ≡ choice (in_order labels) → found ≡ None
      → found_further choice (map value (drop i xs)) ≡ goal
      → found_further choice (map value (drop (i + 1) xs)) ≡ goal
  further_later d labels found goal lt is el ef e h =
      sym (ap (λ o. else_span (span_in_source (Some (value d).source) o)
      (found_further choice (map value (drop (i + 1) xs)))) e)
      ∙ sym (chosen_left d labels found lt is el ef) ∙ h

  pub further_none : (goal : Option SpanInSource) → length xs ≤ i → found_further choice (map value (drop i xs)) ≡ goal
      → None ≡ goal
  further_none goal le h = ap (λ ys. found_further choice (map value ys)) (sym (drop_all i xs le)) ∙ h

-- the first of two that is there
pub found_first : (a b : Option SpanInSource) (f : PrimaryRead) → IsPrimaryRead a f → is_label f ≡ true
    → IsPrimaryRead (else_span a b) f
found_first a b found.Nothing h n = cc
found_first a b found.Unread h n =
    subst (λ (o : Option SpanInSource). IsSpanUnread (else_span o b)) (sym h.is)
    (record { spot = h.spot; is = refl; unread = h.unread })
found_first a b (found.At at) h n =
    subst (λ (o : Option SpanInSource). IsSpanAt (else_span o b) (brief_location_of at)) (sym h.is)
    (record { spot = h.spot; is = refl; begin = h.begin })

pub found_later : (a b : Option SpanInSource) (f g : PrimaryRead) → IsPrimaryRead a f → is_label f ≡ false
    → IsPrimaryRead b g
    → IsPrimaryRead (else_span a b) g
found_later a b found.Nothing g h n k = subst (λ (o : Option SpanInSource). IsPrimaryRead (else_span o b) g) (sym h) k
found_later a b found.Unread g h n k = cc
found_later a b (found.At at) g h n k = cc

pub else_assoc : (a b c : Option SpanInSource) → else_span (else_span a b) c ≡ else_span a (else_span b c)
else_assoc None b c = refl
else_assoc (Some x) b c = refl

-- what a choice finds over a first source, of whose labels it gives this span, else over further ones
abbrev pub chosen_spot : (List Label → Option Span) → Option Source → Option Span → List Section → Option SpanInSource
chosen_spot choice source own further = else_span (span_in_source source own) (found_further choice further)

primary_in_turn : (source : Option Source) (labels : List Label) (further : List Section)
    → else_span (chosen_spot marked_in source (marked_in labels) further)
    (chosen_spot first_in source (first_in labels) further) ≡ primary_span source labels further
primary_in_turn source labels further =
    else_assoc (span_in_source source (marked_in labels)) (found_further marked_in further)
    (chosen_spot first_in source (first_in labels) further)

-- the primary label is one that is marked
pub primary_marked : (source : Option Source) (labels : List Label) (further : List Section) (own : Option Span)
    (f : PrimaryRead) → own ≡ marked_in labels → IsPrimaryRead (chosen_spot marked_in source own further) f
    → is_label f ≡ true → IsPrimaryRead (primary_span source labels further) f
primary_marked source labels further own f is found n =
    subst (λ (o : Option SpanInSource). IsPrimaryRead o f) (primary_in_turn source labels further)
    (found_first (chosen_spot marked_in source (marked_in labels) further)
    (chosen_spot first_in source (first_in labels) further) f
    (subst (λ (o : Option Span). IsPrimaryRead (chosen_spot marked_in source o further) f) is found) n)

-- where none is, it is the first one
pub primary_first : (source : Option Source) (labels : List Label) (further : List Section) (own ahead : Option Span)
    (f g : PrimaryRead) → own ≡ marked_in labels → ahead ≡ first_in labels
    → IsPrimaryRead (chosen_spot marked_in source own further) f → is_label f ≡ false
    → IsPrimaryRead (chosen_spot first_in source ahead further) g → IsPrimaryRead (primary_span source labels further) g
primary_first source labels further own ahead f g own_is ahead_is found n later =
    subst (λ (o : Option SpanInSource). IsPrimaryRead o g) (primary_in_turn source labels further)
    (found_later (chosen_spot marked_in source (marked_in labels) further)
    (chosen_spot first_in source (first_in labels) further) f g
    (subst (λ (o : Option Span). IsPrimaryRead (chosen_spot marked_in source o further) f) own_is found) n
    (subst (λ (o : Option Span). IsPrimaryRead (chosen_spot first_in source o further) g) ahead_is later))

-- ---- the primary label of labels that are accepted is

abbrev chosen_accepted : (List Label → Option Span) → Type 0
chosen_accepted choice = (bytes : List ℕ) (labels : List Label) (span : Span) → choice labels ≡ Some span
    → list_all (λ l. is_in_bounds bytes l.span) labels ≡ true → is_in_bounds bytes span ≡ true

by_mark : (bytes : List ℕ) (own : Span) (later : Option Span) (span : Span) (b : Bool)
    → cond b (Some own) later ≡ Some span → is_in_bounds bytes own ≡ true
    → (later ≡ Some span → is_in_bounds bytes span ≡ true) → is_in_bounds bytes span ≡ true
by_mark bytes own later span true f x more = subst (λ s. is_in_bounds bytes s ≡ true) (ap (λ o. unwrap_or o span) f) x
by_mark bytes own later span false f x more = more f

marked_accepted : chosen_accepted marked_in
marked_accepted bytes [] span e h = cc
marked_accepted bytes (label ∷ labels) span e h =
    let p = and_parts (is_in_bounds bytes label.span) (list_all (λ l. is_in_bounds bytes l.span) labels) h in
    by_mark bytes label.span (marked_in labels) span label.primary e p.0
    (λ f. marked_accepted bytes labels span f p.1)

first_accepted : chosen_accepted first_in
first_accepted bytes [] span e h = cc
first_accepted bytes (label ∷ labels) span e h =
    subst (λ s. is_in_bounds bytes s ≡ true) (ap (λ o. unwrap_or o span) e)
    (and_parts (is_in_bounds bytes label.span) (list_all (λ l. is_in_bounds bytes l.span) labels) h).0

both_false : (p reads : Bool) → (p ≡ true → reads ≡ false) → (p && reads) ≡ false
both_false true reads h = h refl
both_false false reads h = refl

pub accepts_order : (source : Option Source) (labels : List Label) → accepts source (in_order labels)
    ≡ accepts source labels
accepts_order None labels = refl
accepts_order (Some s) labels = ap₂ (λ all nil. all && (nil || s.always_reads))
    (order_all (λ label. is_in_bounds s.bytes label.span) labels) (order_nil labels)

-- where the label that is chosen can't be read, the labels are refused
module _ (choice : List Label → Option Span) (chosen : chosen_accepted choice) (none : choice [] ≡ None) where
  unread_here : (source : Source) (labels : List Label) (span : Span) → choice labels ≡ Some span
      → IsRefusedRead (Some source) span → accepts (Some source) labels ≡ false
  unread_here source [] span e h = (let no : None ≡ Some span = sym none ∙ e in cc)
  unread_here source (label ∷ labels) span e h =
      both_false (list_all (λ l. is_in_bounds source.bytes l.span) (label ∷ labels)) source.always_reads
      (λ all. h (true_accepted source.bytes span (chosen source.bytes (label ∷ labels) span e all)))

  unread_spot : (source : Source) (labels : List Label) (span : Span) (spot : SpanInSource) → choice labels ≡ Some span
      → Some (record { source = source; span = span }) ≡ Some spot → IsRefusedRead (Some spot.source) spot.span
      → accepts (Some source) labels ≡ false
  unread_spot source labels span spot e f h =
      let same : record { source = source; span = span } ≡ spot = ap (λ o. unwrap_or o spot) f in
      unread_here source labels span e
      (subst (λ (s : SpanInSource). IsRefusedRead (Some s.source) s.span) (sym same) h)

  own_unread : (source : Option Source) (labels : List Label) (spot : SpanInSource)
      → span_in_source source (choice labels)
      ≡ Some spot → IsRefusedRead (Some spot.source) spot.span → accepts source labels ≡ false
  own_unread None labels spot e h = cc
  own_unread (Some source) labels spot e h = by_found (choice labels) refl e where
    by_found : (o : Option Span) → choice labels ≡ o → span_in_source (Some source) o ≡ Some spot
        → accepts (Some source) labels ≡ false
    by_found None c f = cc
    by_found (Some span) c f = unread_spot source labels span spot c f h

  section_unread : (section : Section) (sections : List Section) (spot : SpanInSource)
      → IsRefusedRead (Some spot.source) spot.span
      → (found_further choice sections ≡ Some spot → further_pass accepts sections ≡ false)
      → (o : Option Span) → choice (in_order section.labels) ≡ o
      → else_span (span_in_source (Some section.source) o) (found_further choice sections) ≡ Some spot
      → (accepts (Some section.source) section.labels && further_pass accepts sections) ≡ false
  section_unread section sections spot h later None c f =
      ap (λ b. accepts (Some section.source) section.labels && b) (later f)
      ∙ and-false (accepts (Some section.source) section.labels)
  section_unread section sections spot h later (Some span) c f = ap (λ b. b && further_pass accepts sections)
      (sym (accepts_order (Some section.source) section.labels)
      ∙ unread_spot section.source (in_order section.labels) span spot c f h)

  further_unread : (sections : List Section) (spot : SpanInSource) → found_further choice sections ≡ Some spot
      → IsRefusedRead (Some spot.source) spot.span → further_pass accepts sections ≡ false
  further_unread [] spot e h = cc
  further_unread (section ∷ sections) spot e h =
      section_unread section sections spot h (λ f. further_unread sections spot f h)
      (choice (in_order section.labels)) refl e

by_either : {C : Type 0} (a b : Option SpanInSource) (spot : SpanInSource) → (a ≡ Some spot → C) → (b ≡ Some spot → C)
    → else_span a b ≡ Some spot → C
by_either None b spot f g e = g e
by_either (Some x) b spot f g e = f e

-- where the primary label can't be read, labels are refused
pub primary_refused : (source : Option Source) (labels : List Label) (further : List Section)
    → IsSpanUnread (primary_span source labels further)
    → (accepts source labels && further_pass accepts further) ≡ false
primary_refused source labels further u =
    let spot = u.spot in
    let own = λ (r : accepts source labels ≡ false). ap (λ b. b && further_pass accepts further) r in
    let after = λ (r : further_pass accepts further ≡ false).
    ap (λ b. accepts source labels && b) r ∙ and-false (accepts source labels) in
    by_either (span_in_source source (marked_in labels)) _ spot
    (λ f. own (own_unread marked_in marked_accepted refl source labels spot f u.unread))
    (by_either (found_further marked_in further) _ spot
    (λ f. after (further_unread marked_in marked_accepted refl further spot f u.unread))
    (by_either (span_in_source source (first_in labels)) (found_further first_in further) spot
    (λ f. own (own_unread first_in first_accepted refl source labels spot f u.unread))
    (λ f. after (further_unread first_in first_accepted refl further spot f u.unread))))
    u.is

-- ---- the place of a diagnostic

pub nothing_met : (source : Option Source) → MayMeet source false
nothing_met None = refl
nothing_met (Some source) = λ f. cc

pub placed_at : (source : Option Source) (labels : List Label) (further : List Section) (at : BriefLocation)
    → IsSpanAt (primary_span source labels further) at → IsDiagnosticLocation source labels further at
placed_at source labels further at h = record {
  fault = false;
  possible = nothing_met source;
  is = h.begin.1 ∙ ap (chosen_location source false) (sym h.is);
}

pub placed_named : (source : Option Source) (labels : List Label) (further : List Section) (at : BriefLocation)
    → primary_span source labels further ≡ None → IsSourceLocation source at
    → IsDiagnosticLocation source labels further at
placed_named source labels further at e h = record {
  fault = h.fault;
  possible = h.possible;
  is = h.is ∙ ap (chosen_location source h.fault) (sym e);
}

-- ---- the place of a cause

unread_cause : (at : BriefLocation) (spot : SpanInSource) (b : Bool) → is_in_bounds spot.source.bytes spot.span ≡ b
    → IsRefusedRead (Some spot.source) spot.span → IsCauseLocation at (Some spot) at
unread_cause at spot true e h = record {
  fault = true;
  possible = λ f. h (true_accepted spot.source.bytes spot.span e);
  is = sym (ap (λ b. cond (b && false) (span_location spot.source spot.span) at) e);
}
unread_cause at spot false e h = record {
  fault = false;
  possible = λ f. cc;
  is = sym (ap (λ b. cond (b && true) (span_location spot.source spot.span) at) e);
}

pub cause_unread : (at : BriefLocation) (primary : Option SpanInSource) → IsSpanUnread primary
    → IsCauseLocation at primary at
cause_unread at primary u =
    subst (λ (o : Option SpanInSource). IsCauseLocation at o at) (sym u.is)
    (unread_cause at u.spot (is_in_bounds u.spot.source.bytes u.spot.span) refl u.unread)

pub cause_read : (at own : BriefLocation) (primary : Option SpanInSource) → IsSpanAt primary own
    → IsCauseLocation at primary own
cause_read at own primary h =
    subst (λ (o : Option SpanInSource). IsCauseLocation at o own) (sym h.is) (record {
      fault = false;
      possible = λ f. cc;
      is = h.begin.1 ∙ sym (ap (λ b. cond (b && true) (span_location h.spot.source h.spot.span) at)
          (accepted_is h.spot.source.bytes h.spot.span h.begin.0));
    })

pub cause_none : (at : BriefLocation) (primary : Option SpanInSource) → primary ≡ None → IsCauseLocation at primary at
cause_none at primary is =
    subst (λ (o : Option SpanInSource). IsCauseLocation at o at) (sym is)
    (record { fault = false; possible = refl; is = refl })

-- ---- where every source reads, that of the primary label does

spot_reads : (source : Option Source) (span : Option Span) → Reads source → Reads
    (source_of_span (span_in_source source span))
spot_reads None span h = tt
spot_reads (Some source) None h = tt
spot_reads (Some source) (Some span) h = h

else_reads : (a b : Option SpanInSource) → Reads (source_of_span a) → Reads (source_of_span b)
    → Reads (source_of_span (else_span a b))
else_reads None b h k = k
else_reads (Some spot) b h k = h

further_spot_reads : (choice : List Label → Option Span) (sections : List Section)
    → All (λ section. section.source.always_reads ≡ true) sections
    → Reads (source_of_span (found_further choice sections))
further_spot_reads choice [] h = tt
further_spot_reads choice (s ∷ ss) h =
    let reads : Section → Type 0 = λ section. section.source.always_reads ≡ true in
    else_reads (span_in_source (Some s.source) (choice (in_order s.labels))) (found_further choice ss)
    (spot_reads (Some s.source) (choice (in_order s.labels)) (All-head reads s ss h))
    (further_spot_reads choice ss (All-tail reads s ss h))

pub primary_reads : (source : Option Source) (labels : List Label) (further : List Section) → Reads source
    → All (λ section. section.source.always_reads ≡ true) further
    → Reads (source_of_span (primary_span source labels further))
primary_reads source labels further h all =
    else_reads (span_in_source source (marked_in labels)) _ (spot_reads source (marked_in labels) h)
    (else_reads (found_further marked_in further) _ (further_spot_reads marked_in further all)
    (else_reads (span_in_source source (first_in labels)) (found_further first_in further)
    (spot_reads source (first_in labels) h) (further_spot_reads first_in further all)))
