-- The texts of a message of rustc stand in its report.
use Rattle.std.proofs.Common.{◌≡◌, ◌⊎◌, ℕ, List, [], ◌∷◌, ◌++◌, Option, Some, None, option_map, Bool, true, false}
use Rattle.std.proofs.Common.{IfSome}
use Rattle.std.proofs.Common.{codes, filter, map, not, refl, sym, ap, subst, inl, inr}
use Rattle.std.specs.Prelude.{⊤, ◌&&◌, if◌then◌else◌, is_none, option_and_then}
use Rattle.std.specs.List.{AllByRecursion, Contains, filter_map, flat_map}
use Rattle.std.proofs.lemmas.Bool.{and_from, or_right}
use Rattle.serde_json.specs.Data.{Data}
use Rattle.miette_read.specs.rules.Kept.{IsPart, IsPartOf}
use Rattle.miette_read.specs.rules.Members.{member_objects, member_text}
use Rattle.miette_read.specs.rules.Places.{Annotation}
use Rattle.miette_read.specs.rules.SuggestedFixes.{FileEdit, Suggestion, edit_found}
use Rattle.miette_read.specs.rules.Rustc.{Build, child_annotations, edits_in_child, file_name, is_empty, is_help}
use Rattle.miette_read.specs.rules.Rustc.{is_primary}
use Rattle.miette_read.specs.rules.Rustc.{is_secondary, label_rows, note_annotations, macro_annotation, message_of}
use Rattle.miette_read.specs.rules.Rustc.{unmoved_annotation}
use Rattle.miette_read.specs.rules.Rustc.{note_message, note_annotation, own_span_annotations}
use Rattle.miette_read.specs.rules.Rustc.{own_annotation, rustc_location, primary_first, spans_of, is_annotation}
use Rattle.miette_read.specs.rules.Rustc.{text_annotation}
use Rattle.miette_read.specs.rules.Rustc.{message_annotations}
use Rattle.miette_read.specs.rules.RustcReport.{all_span_edits, span_edit, child_help_row, help_rows, helps}
use Rattle.miette_read.specs.rules.RustcReport.{message_tree}
use Rattle.miette_read.specs.rules.RustcReport.{suggestion_of_edits, child_suggestion, suggestion_of_spans}
use Rattle.miette_read.specs.rules.RustcReport.{message_suggestions, quoted, message_parts}
use Rattle.miette_read.specs.rules.RustcReport.{short_text, short_texts, with_texts}
use Rattle.miette_read.specs.rules.AnnotationLabels.{file_range, has_no_rows, label_lists}
use Rattle.miette_read.specs.laws.Applying.{AreFound, IsFound}
use Rattle.miette_read.specs.laws.RustcTexts.{IsBeforeIn, IsTextInReport, child_texts, span_texts, texts_of}
use Rattle.miette_read.specs.laws.Shown.{IsRowIn}
use Rattle.miette_read.proofs.Holding.{Has, Is, all_each, all_flat, all_more, all_there, has_after, has_each}
use Rattle.miette_read.proofs.Holding.{all_made, has_flat, has_found, has_it, has_kept, has_made, has_map}
use Rattle.miette_read.proofs.Holding.{has_more, has_split}
use Rattle.miette_tree.specs.rules.Tree.{head}
use Rattle.miette_read.proofs.HelpRows.{row_part, row_told, text_there}
use Rattle.miette_read.proofs.Made.{report_says}
use Rattle.miette_read.proofs.KeptOffers.{AreSound, all_sound, edit_is}
use Rattle.miette_read.proofs.RowLists.{rows_there}
use Rattle.miette_read.proofs.KeptRows.{part_after, part_self, row_joined}
use Rattle.miette_read.proofs.KeptStanding.{IsOffered, Says, help_stands, offered_stands, told_stands}

-- ---- labels of spans

abbrev pub HasLabel : List ℕ → Data → Type 0
HasLabel text d = Has (IsPart text) (label_rows d)

rows_have : (rows : List (List ℕ)) → AllByRecursion (λ text. Has (IsPart text) rows) rows
rows_have rows =
    all_each (λ text. Has (Is text) rows) (λ text. Has (IsPart text) rows)
    (λ text. has_each (Is text) (IsPart text)
    (λ row is. subst (λ (k : List ℕ). IsPart text k) (sym is) (part_self text)) rows) rows (all_there rows)

pub labels_have : (ds : List Data) → AllByRecursion (λ text. Has (HasLabel text) ds) (flat_map label_rows ds)
labels_have ds = all_flat HasLabel label_rows (λ d. rows_have (label_rows d)) ds

-- those that are primary, and the others
either_kept : (P : Data → Type 0) (b : Bool) (d : Data) (xs ys : List Data)
    → (P d ⊎ Has P (xs ++ ys)) → Has P ((if b then d ∷ xs else xs) ++ (if not b then d ∷ ys else ys))
either_kept P true d xs ys h = h
either_kept P false d xs ys (inl p) = has_after P xs (d ∷ ys) (inl p)
either_kept P false d [] ys (inr h) = inr h
either_kept P false d (x ∷ xs) ys (inr (inl p)) = inl p
either_kept P false d (x ∷ xs) ys (inr (inr h)) = inr (either_kept P false d xs ys (inr h))

has_primary : (P : Data → Type 0) (ds : List Data) → Has P ds → Has P (primary_first ds)
has_primary P [] h = absurd h
has_primary P (d ∷ ds) (inl p) =
    either_kept P (is_primary d) d (filter is_primary ds) (filter is_secondary ds) (inl p)
has_primary P (d ∷ ds) (inr h) =
    either_kept P (is_primary d) d (filter is_primary ds) (filter is_secondary ds) (inr (has_primary P ds h))

-- a span with a label tells something
some_rows : (text : List ℕ) (rows : List (List ℕ)) → Has (IsPart text) rows → not (has_no_rows rows) ≡ true
some_rows text [] h = absurd h
some_rows text (r ∷ rs) h = refl

label_tells : (text : List ℕ) (d : Data) → HasLabel text d → is_annotation d ≡ true
label_tells text d h = or_right _ _ (some_rows text (label_rows d) h)

module _ (build : Build) where
  leading_says : (text : List ℕ) (rows : List (List ℕ)) (ds : List Data) → Has (HasLabel text) ds
      → Says (note_annotations build rows ds) text
  leading_says text rows [] h = absurd h
  leading_says text rows (d ∷ ds) (inl h) = inl (has_after (IsPart text) rows (label_rows d) h)
  leading_says text rows (d ∷ ds) (inr h) =
      inr (has_map (HasLabel text) (λ (t : Annotation). Has (IsPart text) t.rows) (note_annotation build []) (λ d h. h)
      ds h)

  child_by : (text : List ℕ) (rows : List (List ℕ)) (more : List Annotation) (a : Bool) (ds : List Data)
      → Has (HasLabel text) ds
      → Says (if not a then note_annotations build [] (filter is_annotation ds)
      else if not (is_empty ds) then note_annotations build rows ds else more) text
  child_by text rows more a [] h = absurd h
  child_by text rows more true (d ∷ ds) h = leading_says text rows (d ∷ ds) h
  child_by text rows more false (d ∷ ds) h =
      leading_says text [] (filter is_annotation (d ∷ ds))
      (has_kept (HasLabel text) is_annotation (label_tells text) (d ∷ ds) h)

  -- ---- where the texts of a note, a help or a proposal stand

  abbrev IsHelped : List ℕ → Data → Type 0
  IsHelped text c = (helps build.files c ≡ true) × (message_of c ≡ text)

  abbrev IsOfferedBy : List ℕ → Data → Type 0
  IsOfferedBy text c =
      (o : Suggestion) × (child_suggestion build.files c ≡ Some o) × (o.message ≡ text) × AreSound build.files o.edits

  abbrev StandsBy : List ℕ → Data → Type 0
  StandsBy text c = Says (child_annotations build c) text ⊎ (IsHelped text c ⊎ IsOfferedBy text c)

  labels_stand : (c : Data) → AllByRecursion (λ text. StandsBy text c) (span_texts c)
  labels_stand c =
      all_each (λ text. Has (HasLabel text) (member_objects (codes "spans") c)) (λ text. StandsBy text c)
      (λ text h. inl (child_by text (note_message c ∷ [])
      (if is_help c then [] else text_annotation (message_of c) ∷ []) (is_empty (edits_in_child c)) (spans_of c)
      (has_primary (HasLabel text) (member_objects (codes "spans") c) h))) (span_texts c)
      (labels_have (member_objects (codes "spans") c))

  -- ---- proposals

  edit_by : (d : Data) (o : Option (List ℕ))
      → IfSome (option_and_then (λ text. option_map (edit_found (file_name d) text)
      (file_range build.files (rustc_location d))) o) (IsFound build.files)
  edit_by d None = tt
  edit_by d (Some text) = edit_is build.files (rustc_location d) text

  edit_sound : (d : Data) → IfSome (span_edit build.files d) (IsFound build.files)
  edit_sound d = edit_by d (member_text (codes "suggested_replacement") d)

  abbrev IsOfferOf : Data → Suggestion → Type 0
  IsOfferOf c o = (o.message ≡ message_of c) × AreSound build.files o.edits

  offer_from : (c first : Data) (o : Option (List FileEdit)) → IfSome o (AreSound build.files)
      → IfSome (option_map (suggestion_of_edits c first) o) (IsOfferOf c)
  offer_from c first None h = tt
  offer_from c first (Some es) h = (refl, h)

  found_from : (c : Data) (o : Option Suggestion) → IfSome o (IsOfferOf c) → IfSome o (AreFound build.files)
  found_from c None h = tt
  found_from c (Some o) h = h.1.0

  offer_sound : (c : Data) (ds : List Data) → IfSome (suggestion_of_spans build.files c ds) (IsOfferOf c)
  offer_sound c [] = tt
  offer_sound c (d ∷ ds) =
      offer_from c d (all_span_edits build.files (d ∷ ds)) (all_sound build.files (span_edit build.files) edit_sound d
      ds)

  pub rustc_found : (d : Data) → AllByRecursion (AreFound build.files) (message_suggestions build.files d)
  rustc_found d =
      all_made (AreFound build.files) (child_suggestion build.files)
      (λ c. found_from c (child_suggestion build.files c) (offer_sound c (edits_in_child c)))
      (member_objects (codes "children") d)

  -- ---- messages of children

  -- whether it is help, by whether it has no edits
  abbrev HelpsBy : Data → Bool → Type 0
  HelpsBy c b =
      (if b then is_help c && is_empty (member_objects (codes "spans") c) else is_none (child_suggestion build.files c))
      ≡ true

  proposal_by : (c : Data) (o : Option Suggestion) → child_suggestion build.files c ≡ o → IfSome o (IsOfferOf c)
      → is_empty (edits_in_child c) ≡ false → StandsBy (message_of c) c
  proposal_by c None is h edits =
      inr (inl (subst (HelpsBy c) (sym edits) (ap is_none is), refl))
  proposal_by c (Some o) is h edits = inr (inr (o, is, h.0, h.1))

  said_by : (message : List ℕ) (b : Bool) → IsPart message (if b then codes "help: " ++ message else message)
  said_by message true = part_after message (codes "help: ")
  said_by message false = part_self message

  is_said : (c : Data) → IsPart (message_of c) (note_message c)
  is_said c = said_by (message_of c) (is_help c)

  not_empty : (P : Data → Type 0) (ds : List Data) → Has P ds → is_empty ds ≡ true → ⊥
  not_empty P [] h e = absurd h
  not_empty P (d ∷ ds) h e = cc

  -- without spans in their order there are none
  no_spans : (ds : List Data) → is_empty (primary_first ds) ≡ true → is_empty ds ≡ true
  no_spans [] e = refl
  no_spans (d ∷ ds) e =
      absurd (not_empty (λ x. ⊤) (primary_first (d ∷ ds)) (has_primary (λ x. ⊤) (d ∷ ds) (inl tt)) e)

  message_by : (c : Data) (ss : List Data) (a b h : Bool) → is_empty (edits_in_child c) ≡ a → is_empty ss ≡ b
      → is_help c ≡ h → a ≡ true → (b ≡ true → is_empty (member_objects (codes "spans") c) ≡ true)
      → Says (if not a then note_annotations build [] (filter is_annotation ss)
      else if not b then note_annotations build (note_message c ∷ []) ss
      else if h then [] else text_annotation (message_of c) ∷ []) (message_of c)
      ⊎ (helps build.files c ≡ true)
  message_by c ss false b h edits spans help e none = cc
  message_by c [] true false h edits spans help e none = cc
  message_by c (d ∷ ds) true false h edits spans help e none = inl (inl (inl (is_said c)))
  message_by c ss true true false edits spans help e none = inl (inl (inl (part_self (message_of c))))
  message_by c ss true true true edits spans help e none =
      inr (subst (HelpsBy c) (sym edits) (and_from _ _ help (none refl)))

  message_stands : (c : Data) (a : Bool) → is_empty (edits_in_child c) ≡ a → StandsBy (message_of c) c
  message_stands c false e = proposal_by c (child_suggestion build.files c) refl (offer_sound c (edits_in_child c)) e
  message_stands c true e =
      elim (message_by c (spans_of c) (is_empty (edits_in_child c)) (is_empty (spans_of c)) (is_help c) refl refl refl e
      (no_spans (member_objects (codes "spans") c))) [
        | inl told ↦ inl told
        | inr helped ↦ inr (inl (helped, refl))
      ]

  child_stands : (c : Data) → AllByRecursion (λ text. StandsBy text c) (child_texts c)
  child_stands c = (message_stands c (is_empty (edits_in_child c)) refl, labels_stand c)

  -- ---- all of them

  module _ (d : Data) where
    abbrev children : List Data
    children = member_objects (codes "children") d

    own_stands : (text : List ℕ) → Has (HasLabel text) (member_objects (codes "spans") d)
        → Says (message_annotations build d) text
    own_stands text h =
        has_more (λ (t : Annotation). Has (IsPart text) t.rows) (own_span_annotations build (spans_of d))
        (flat_map (child_annotations build) children)
        (has_more (λ (t : Annotation). Has (IsPart text) t.rows)
        (map (own_annotation build) (spans_of d) ++ filter_map (unmoved_annotation build) (spans_of d))
        (filter_map (macro_annotation build) (spans_of d))
        (has_more (λ (t : Annotation). Has (IsPart text) t.rows) (map (own_annotation build) (spans_of d))
        (filter_map (unmoved_annotation build) (spans_of d))
        (has_map (HasLabel text) (λ (t : Annotation). Has (IsPart text) t.rows) (own_annotation build) (λ d h. h)
        (spans_of d)
        (has_primary (HasLabel text) (member_objects (codes "spans") d) h))))

    abbrev IsRowBy : List ℕ → Data → Type 0
    IsRowBy row c = (helps build.files c ≡ true) × (child_help_row c ≡ row)

    -- a row of the help
    row_stands : (c : Data) → Contains children c → helps build.files c ≡ true
        → IsRowIn (child_help_row c) (message_parts build.files d).help
    row_stands c there h =
        row_joined (child_help_row c) (help_rows build.files children)
        (rows_there (child_help_row c) [] (map child_help_row (filter (helps build.files) children))
        (has_map (IsRowBy (child_help_row c)) (Is (child_help_row c)) child_help_row (λ x it. it.1)
        (filter (helps build.files) children)
        (has_kept (IsRowBy (child_help_row c)) (helps build.files) (λ x it. it.0) children
        (has_it (IsRowBy (child_help_row c)) children c there (h, refl)))))

    helped_stands : (text : List ℕ) → Has (IsHelped text) children
        → IsRowIn text (message_parts build.files d).help ⊎ IsBeforeIn text (message_parts build.files d).help
    helped_stands text h =
        let it = has_found (IsHelped text) children h in
        let help = (message_parts build.files d).help in
        row_told text (short_texts it.0) help
        (subst (λ (k : List ℕ). IsRowIn (with_texts k (short_texts it.0)) help) it.2.1 (row_stands it.0 it.1 it.2.0))

    told_stand : (text : List ℕ) → Has (λ c. Says (child_annotations build c) text) children
        → Says (message_annotations build d) text
    told_stand text h =
        has_after (λ (t : Annotation). Has (IsPart text) t.rows) (own_span_annotations build (spans_of d))
        (flat_map (child_annotations build) children)
        (has_flat (λ c. Says (child_annotations build c) text) (λ (t : Annotation). Has (IsPart text) t.rows)
        (child_annotations build)
        (λ c it. it) children h)

    offered_stand : (text : List ℕ) → Has (IsOfferedBy text) children
        → Has (IsOffered build.files (message_parts build.files d) (message_annotations build d)
        (message_suggestions build.files d) text)
        (message_suggestions build.files d)
    offered_stand text h =
        has_made (IsOfferedBy text)
        (IsOffered build.files (message_parts build.files d) (message_annotations build d)
        (message_suggestions build.files d) text)
        (child_suggestion build.files) (λ c it. (it.0, it.1, (it.2, it.3))) children h

    said_told : (text : List ℕ)
        → IsRowIn text (message_parts build.files d).help ⊎ IsBeforeIn text (message_parts build.files d).help
        → IsTextInReport (message_tree build d) text
    said_told text (inl row) =
        inl (help_stands build.files (message_parts build.files d) (message_annotations build d)
        (message_suggestions build.files d) text row)
    said_told text (inr before) =
        inr (subst (IsBeforeIn text)
        (sym (report_says (message_parts build.files d) (label_lists build.files (message_annotations build d))
        (message_suggestions build.files d)).3)
        before)

    part_stands : (text : List ℕ) → Has (StandsBy text) children → IsTextInReport (message_tree build d) text
    part_stands text h =
        let said = message_parts build.files d in
        let told = message_annotations build d in
        let offers = message_suggestions build.files d in
        elim (has_split (λ c. Says (child_annotations build c) text) (λ c. IsHelped text c ⊎ IsOfferedBy text c)
        children h) [
          | inl say ↦ inl (told_stands build.files said told offers text (told_stand text say))
          | inr more ↦
              elim (has_split (IsHelped text) (IsOfferedBy text) children more) [
                | inl help ↦ said_told text (helped_stands text help)
                | inr offered ↦ inl (offered_stands build.files said told offers text (offered_stand text offered))
              ]
        ]

    pub rustc_stand : AllByRecursion (IsTextInReport (message_tree build d)) (texts_of d)
    rustc_stand =
        all_more (IsTextInReport (message_tree build d)) (span_texts d) (flat_map child_texts children)
        (all_each (λ text. Has (HasLabel text) (member_objects (codes "spans") d))
        (IsTextInReport (message_tree build d))
        (λ text h. inl (told_stands build.files (message_parts build.files d) (message_annotations build d)
        (message_suggestions build.files d) text
        (own_stands text h))) (span_texts d) (labels_have (member_objects (codes "spans") d)))
        (all_each (λ text. Has (StandsBy text) children) (IsTextInReport (message_tree build d)) part_stands
        (flat_map child_texts children) (all_flat StandsBy child_texts child_stands children))

    -- ---- what a proposal writes that can't be found

    lost_helps : (c : Data) (ds : List Data) → edits_in_child c ≡ ds → child_suggestion build.files c ≡ None
        → (text : List ℕ)
        → Has (Is text) (filter_map short_text ds) → helps build.files c ≡ true
    lost_helps c [] e none text h = absurd h
    lost_helps c (x ∷ xs) e none text h =
        let some : is_empty (edits_in_child c) ≡ false = ap is_empty e in
        subst (HelpsBy c) (sym some) (ap is_none none)

    pub rustc_written : (c : Data) (text : List ℕ) → Contains children c → child_suggestion build.files c ≡ None
        → Contains (short_texts c) text → IsPartOf (quoted text) (head (message_tree build d)).help
    rustc_written c text there none written =
        let it = has_it (Is text) (short_texts c) text written refl in
        let row = row_stands c there (lost_helps c (edits_in_child c) refl none text it) in
        subst (IsPartOf (quoted text))
        (sym (report_says (message_parts build.files d) (label_lists build.files (message_annotations build d))
        (message_suggestions build.files d)).3)
        (row_part (quoted text) (child_help_row c) (message_parts build.files d).help
        (text_there text (message_of c) (short_texts c) it) row)
