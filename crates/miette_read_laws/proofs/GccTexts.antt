-- The texts of a diagnostic of GCC stand in its report.
use Rattle.std.proofs.Common.{ℕ, ◌+◌, List, [], ◌∷◌, ◌++◌, Option, Some, None, false, codes}
use Rattle.std.proofs.Common.{inl, inr}
use Rattle.std.specs.Prelude.{decimal, unwrap_or}
use Rattle.std.specs.List.{AllByRecursion, flat_map}
use Rattle.serde_json.specs.Data.{Data}
use Rattle.miette_read_gcc.specs.rules.Gcc.{GccContext, event_annotation, event_annotations, location_annotation}
use Rattle.miette_read_gcc.specs.rules.Gcc.{location_annotations, message_of}
use Rattle.miette_read_gcc.specs.rules.Gcc.{note_annotations_by, note_annotations, diagnostic_annotations}
use Rattle.miette_read_gcc.specs.rules.GccReport.{diagnostic_suggestions, context_report, diagnostic_parts}
use Rattle.miette_read.specs.rules.Kept.{IsPart}
use Rattle.miette_read.specs.rules.Members.{member_objects, member_text}
use Rattle.miette_read.specs.rules.Places.{Annotation}
use Rattle.miette_read.specs.rules.Rustc.{label_rows, maybe_row}
use Rattle.miette_read_laws.specs.laws.GccTexts.{event_texts, location_texts, note_texts, texts_of}
use Rattle.miette_read.specs.laws.MessageTexts.{IsInReport}
use Rattle.miette_read.proofs.Holding.{Has, all_each, all_flat, all_more, has_after, has_flat, has_map}
use Rattle.miette_read.proofs.Holding.{has_more}
use Rattle.miette_read.proofs.KeptRows.{part_after, part_self, part_within}
use Rattle.miette_read.proofs.RustcTexts.{HasLabel, labels_have}
use Rattle.miette_read.proofs.KeptStanding.{Says, told_stands}

abbrev Tells : List ℕ → Annotation → Type 0
Tells text t = Has (IsPart text) t.rows

abbrev locations : Data → List Data
locations d = member_objects (codes "locations") d

module _ (g : GccContext) where
  -- ---- locations

  locations_say : (text : List ℕ) (words : Option (List ℕ)) (ls : List Data) → Has (HasLabel text) ls
      → Says (location_annotations g words ls) text
  locations_say text words [] h = absurd h
  locations_say text words (l ∷ ls) (inl h) = inl (has_after (IsPart text) (maybe_row words) (label_rows l) h)
  locations_say text words (l ∷ ls) (inr h) =
      inr (has_map (HasLabel text) (Tells text) (location_annotation g words false) (λ l h. h) ls h)

  note_says : (text message : List ℕ) (ls : List Data) → Has (HasLabel text) ls
      → Says (note_annotations_by g message ls) text
  note_says text message [] h = absurd h
  note_says text message (l ∷ ls) h = locations_say text (Some message) (l ∷ ls) h

  message_says : (message : List ℕ) (ls : List Data) → Says (note_annotations_by g message ls) message
  message_says message [] = inl (inl (part_self message))
  message_says message (l ∷ ls) = inl (inl (part_self message))

  note_stands : (c : Data) → AllByRecursion (λ text. Says (note_annotations g c) text) (note_texts c)
  note_stands c = (
    message_says (message_of c) (locations c),
    all_each (λ text. Has (HasLabel text) (locations c)) (λ text. Says (note_annotations g c) text)
        (λ text. note_says text (message_of c) (locations c)) (location_texts c) (labels_have (locations c)),
  )

  -- ---- events

  abbrev IsEvent : List ℕ → Data → Type 0
  IsEvent text e = IsPart text (unwrap_or (member_text (codes "description") e) [])

  event_says : (text : List ℕ) (n : ℕ) (e : Data) → IsEvent text e → Tells text (event_annotation g n e)
  event_says text n e h =
      let words = unwrap_or (member_text (codes "description") e) [] in
      inl (part_within text words ((codes "(" ++ decimal n) ++ (codes ") " ++ words)) h
      (part_within words (codes ") " ++ words) ((codes "(" ++ decimal n) ++ (codes ") " ++ words))
      (part_after words (codes ") ")) (part_after (codes ") " ++ words) (codes "(" ++ decimal n))))

  events_say : (text : List ℕ) (n : ℕ) (es : List Data) → Has (IsEvent text) es → Says (event_annotations g n es) text
  events_say text n [] h = absurd h
  events_say text n (e ∷ es) (inl h) = inl (event_says text n e h)
  events_say text n (e ∷ es) (inr h) = inr (events_say text (n + 1) es h)

  -- ---- all of them

  module _ (d : Data) where
    abbrev events : List Data
    events = member_objects (codes "path") d

    abbrev notes : List Data
    notes = member_objects (codes "children") d

    abbrev own : List Annotation
    own = location_annotations g None (locations d)

    abbrev told_events : List Annotation
    told_events = event_annotations g 1 events

    stands : (text : List ℕ) → Says (diagnostic_annotations g d) text → IsInReport (context_report g d) text
    stands text h = told_stands g.files (diagnostic_parts g d) (diagnostic_annotations g d) (diagnostic_suggestions g d)
        text h

    own_stands : (text : List ℕ) → Has (HasLabel text) (locations d) → IsInReport (context_report g d) text
    own_stands text h =
        stands text (has_more (Tells text) (own ++ told_events) (flat_map (note_annotations g) notes)
        (has_more (Tells text) own told_events (locations_say text None (locations d) h)))

    event_stands : (text : List ℕ) → Has (IsEvent text) events → IsInReport (context_report g d) text
    event_stands text h =
        stands text (has_more (Tells text) (own ++ told_events) (flat_map (note_annotations g) notes)
        (has_after (Tells text) own told_events (events_say text 1 events h)))

    told_stand : (text : List ℕ) → Has (λ c. Says (note_annotations g c) text) notes
        → IsInReport (context_report g d) text
    told_stand text h =
        stands text (has_after (Tells text) (own ++ told_events) (flat_map (note_annotations g) notes)
        (has_flat (λ c. Says (note_annotations g c) text) (Tells text) (note_annotations g) (λ c it. it) notes h))

    pub gcc_stand : AllByRecursion (IsInReport (context_report g d)) (texts_of d)
    gcc_stand =
        all_more (IsInReport (context_report g d)) (location_texts d)
        (flat_map event_texts events ++ flat_map note_texts notes)
        (all_each (λ text. Has (HasLabel text) (locations d)) (IsInReport (context_report g d)) own_stands
        (location_texts d)
        (labels_have (locations d)))
        (all_more (IsInReport (context_report g d)) (flat_map event_texts events) (flat_map note_texts notes)
        (all_each (λ text. Has (IsEvent text) events) (IsInReport (context_report g d)) event_stands
        (flat_map event_texts events)
        (all_flat IsEvent event_texts (λ e. (part_self (unwrap_or (member_text (codes "description") e) []), tt))
        events))
        (all_each (λ text. Has (λ c. Says (note_annotations g c) text) notes) (IsInReport (context_report g d))
        told_stand
        (flat_map note_texts notes) (all_flat (λ text c. Says (note_annotations g c) text) note_texts note_stands
        notes)))
