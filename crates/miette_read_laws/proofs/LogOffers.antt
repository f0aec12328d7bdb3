-- The proposals of a result of a SARIF log, and a report over a file as a whole.
use Rattle.std.proofs.Common.{◌≡◌, ◌⊎◌, ℕ, List, [], ◌∷◌, Option, Some, None, option_map, Bool, true}
use Rattle.std.proofs.Common.{false, IfSome, arith, find, refl, ap, subst, sym, inl, inr, ◌∙◌}
use Rattle.std.specs.Prelude.{if◌then◌else◌, bytes_eq, is_none, is_some, option_and_then, ⊤}
use Rattle.std.specs.List.{AllByRecursion, Any, cons_option, filter_map, flat_map, fold, list_all}
use Rattle.std.proofs.lemmas.Bool.{and_parts}
use Rattle.miette_fixes.specs.rules.Edits.{FixModel}
use Rattle.miette_protocol.specs.rules.Reading.{Source}
use Rattle.miette_read.specs.rules.Members.{nonempty_text}
use Rattle.miette_read.specs.rules.Places.{ToolLocation, ByteRange, Annotation}
use Rattle.miette_read.specs.rules.SuggestedFixes.{FileEdit, Suggestion, edit_found, fixes_in, is_in}
use Rattle.miette_read.specs.rules.Reports.{MessageParts, main_fixes, report_tree}
use Rattle.miette_read.specs.rules.Rustc.{maybe_row}
use Rattle.miette_read.specs.rules.AnnotationLabels.{LabelLists, file_range, label_lists}
use Rattle.miette_read.proofs.ReportsRead.{either}
use Rattle.miette_read_sarif.specs.rules.Proposals.{SuggestionDraft, all_drafted_edits, draft_with_message}
use Rattle.miette_read_sarif.specs.rules.Proposals.{drafted_edit, with_help_row, is_found, suggestion_of_found}
use Rattle.miette_read_sarif.specs.rules.Proposals.{found_suggestion}
use Rattle.miette_read_sarif.specs.rules.Proposals.{suggestion_with_message, found_suggestions, with_help}
use Rattle.miette_read_sarif.specs.rules.Wholes.{FileAnnotations, all_annotations, file_named, fixes_over, found_file}
use Rattle.miette_read_sarif.specs.rules.Wholes.{is_of}
use Rattle.miette_read_sarif.specs.rules.Wholes.{is_there, other_suggestion, own_suggestion}
use Rattle.miette_read_sarif.specs.rules.Wholes.{tree_over, own_whole_file}
use Rattle.miette_read_sarif.proofs.LogsHold.{IsUnmarked, none_marked}
use Rattle.miette_tree.specs.rules.Tree.{Tree, head, with_fixes, with_source}
use Rattle.miette_read.specs.laws.Applying.{AreFound, IsFound}
use Rattle.miette_read.specs.laws.Proposed.{HasEdit}
use Rattle.miette_read.specs.laws.Shown.{IsRowIn}
use Rattle.miette_read.specs.laws.MessageTexts.{IsFixOf, IsInReport}
use Rattle.miette_read.proofs.Holding.{Has, Is, all_made, has_any, has_each}
use Rattle.miette_read.proofs.Holding.{has_flat, has_made, has_split}
use Rattle.miette_read.proofs.Made.{report_says}
use Rattle.miette_read.proofs.KeptOffers.{AreSound, all_sound, edit_is}
use Rattle.miette_read.proofs.RowLists.{row_stays, row_there}
use Rattle.miette_read.proofs.Proposed.{fixes_have}
use Rattle.miette_read.proofs.KeptStanding.{IsOffered, Says, help_stands, offered_stands, told_stands}

module _ (files : List ℕ → Option Source) where
  edit_sound : (e : ToolLocation × List ℕ) → IfSome (drafted_edit files e) (IsFound files)
  edit_sound e = edit_is files e.0 e.1

  abbrev IsOfferOf : List ℕ → Suggestion → Type 0
  IsOfferOf words o = (o.message ≡ words) × AreSound files o.edits

  offer_from : (words : List ℕ) (o : Option (List FileEdit)) → IfSome o (AreSound files)
      → IfSome (option_map (suggestion_of_found words) o) (IsOfferOf words)
  offer_from words None h = tt
  offer_from words (Some es) h = (refl, h)

  found_from : (o : Option Suggestion) (words : List ℕ) → IfSome o (IsOfferOf words) → IfSome o (AreFound files)
  found_from None words h = tt
  found_from (Some o) words h = h.1.0

  offer_sound : (words : List ℕ) (es : List (ToolLocation × List ℕ)) → IfSome (suggestion_with_message files words es)
      (AreFound files)
  offer_sound words [] = tt
  offer_sound words (e ∷ es) =
      found_from (suggestion_with_message files words (e ∷ es)) words
      (offer_from words (all_drafted_edits files (e ∷ es)) (all_sound files (drafted_edit files) edit_sound e es))

  pub log_found : (ds : List SuggestionDraft) → AllByRecursion (AreFound files) (found_suggestions files ds)
  log_found ds = all_made (AreFound files) (found_suggestion files) (λ d. offer_sound d.words d.edits) ds

  -- ---- those that aren't offered

  abbrev IsSaying : List ℕ → Type 0
  IsSaying [] = ⊥
  IsSaying (c ∷ cs) = ⊤

  abbrev pub IsHelped : List ℕ → SuggestionDraft → Type 0
  IsHelped text d = (is_none (found_suggestion files d) ≡ true) × (d.words ≡ text) × IsSaying text

  row_kept : (text words : List ℕ) (rows : List (List ℕ)) → Has (Is text) rows
      → Has (Is text) (with_help_row rows words)
  row_kept text [] rows h = h
  row_kept text (c ∷ cs) rows h = row_stays (Is text) rows (c ∷ cs) h

  help_stays : (text : List ℕ) (ds : List SuggestionDraft) (rows : List (List ℕ)) → Has (Is text) rows
      → Has (Is text) (fold (with_help files) rows ds)
  help_stays text [] rows h = h
  help_stays text (d ∷ ds) rows h =
      help_stays text ds (with_help files rows d)
      (either (Has (Is text)) (is_none (found_suggestion files d)) (with_help_row rows d.words) rows
      (row_kept text d.words rows h) h)

  row_helped : (text : List ℕ) (rows : List (List ℕ)) → IsSaying text → Has (Is text) (with_help_row rows text)
  row_helped [] rows some = absurd some
  row_helped (c ∷ cs) rows some = row_there rows (c ∷ cs)

  help_by : (text words : List ℕ) (rows : List (List ℕ)) (b : Bool) → b ≡ true → words ≡ text → IsSaying text
      → Has (Is text) (if b then with_help_row rows words else rows)
  help_by text words rows false e is some = cc
  help_by text words rows true e is some =
      subst (λ (k : List ℕ). Has (Is text) (with_help_row rows k)) (sym is) (row_helped text rows some)

  pub help_there : (text : List ℕ) (ds : List SuggestionDraft) (rows : List (List ℕ)) → Has (IsHelped text) ds
      → Has (Is text) (fold (with_help files) rows ds)
  help_there text [] rows h = absurd h
  help_there text (d ∷ ds) rows (inl it) =
      help_stays text ds (with_help files rows d)
      (help_by text d.words rows (is_none (found_suggestion files d)) it.0 it.1 it.2)
  help_there text (d ∷ ds) rows (inr h) = help_there text ds (with_help files rows d) h

  -- ---- each of them is offered, or is help

  abbrev pub IsOfferedBy : List ℕ → SuggestionDraft → Type 0
  IsOfferedBy text d = (o : Suggestion) × (found_suggestion files d ≡ Some o) × (o.message ≡ text)
      × AreSound files o.edits

  abbrev pub IsProposed : List ℕ → SuggestionDraft → Type 0
  IsProposed text d = IsHelped text d ⊎ IsOfferedBy text d

  found_by : (words : List ℕ) → IsSaying words → (e : ToolLocation × List ℕ) (es : List (ToolLocation × List ℕ))
      (o : Option (List FileEdit)) → all_drafted_edits files (e ∷ es) ≡ o → IfSome o (AreSound files)
      → IsProposed words (record { words = words; edits = e ∷ es })
  found_by words some e es None is h = inl (
    ap (λ found. is_none (option_map (suggestion_of_found words) found)) is,
    refl,
    some,
  )
  found_by words some e es (Some found) is h =
      inr (suggestion_of_found words found, ap (option_map (suggestion_of_found words)) is, refl, h)

  text_proposed : (words : List ℕ) → IsSaying words → (edits : List (ToolLocation × List ℕ))
      → IsProposed words (record { words = words; edits = edits })
  text_proposed words some [] = inl (refl, refl, some)
  text_proposed words some (e ∷ es) =
      found_by words some e es (all_drafted_edits files (e ∷ es)) refl
      (all_sound files (drafted_edit files) edit_sound e es)

  -- of what it says of itself
  pub draft_proposed : (edits : List (ToolLocation × List ℕ)) (o : Option (List ℕ))
      → AllByRecursion (λ text. IsProposed text (draft_with_message (nonempty_text o) edits))
      (maybe_row (nonempty_text o))
  draft_proposed edits None = tt
  draft_proposed edits (Some []) = tt
  draft_proposed edits (Some (c ∷ cs)) = (text_proposed (c ∷ cs) tt edits, tt)

  -- ---- over one file

  abbrev AreNamed : List ℕ → Suggestion → Type 0
  AreNamed name o = AllByRecursion (λ (x : FileEdit). is_in name x ≡ true) o.edits

  edit_named : (name : List ℕ) (e : ToolLocation × List ℕ) → bytes_eq e.0.name name ≡ true
      → (o : Option (Source × ByteRange))
      → IfSome (option_map (edit_found e.0.name e.1) o) (λ (x : FileEdit). is_in name x ≡ true)
  edit_named name e h None = tt
  edit_named name e h (Some found) = h

  made_named : (name : List ℕ) (o : Option FileEdit) (xs : List FileEdit)
      → IfSome o (λ (x : FileEdit). is_in name x ≡ true) → AllByRecursion (λ (x : FileEdit). is_in name x ≡ true) xs
      → AllByRecursion (λ (x : FileEdit). is_in name x ≡ true) (cons_option o xs)
  made_named name None xs h k = k
  made_named name (Some x) xs h k = (h, k)

  edits_named : (name : List ℕ) (es : List (ToolLocation × List ℕ))
      → list_all (λ (e : ToolLocation × List ℕ). bytes_eq e.0.name name) es ≡ true
      → AllByRecursion (λ (x : FileEdit). is_in name x ≡ true) (filter_map (drafted_edit files) es)
  edits_named name [] h = tt
  edits_named name (e ∷ es) h =
      let parts = and_parts _ _ h in
      made_named name (drafted_edit files e) (filter_map (drafted_edit files) es)
      (edit_named name e parts.0 (file_range files e.0)) (edits_named name es parts.1)

  named_by : (name words : List ℕ) (xs : List FileEdit) (b : Bool)
      → AllByRecursion (λ (x : FileEdit). is_in name x ≡ true) xs
      → IfSome (option_map (suggestion_of_found words) (if b then Some xs else None)) (AreNamed name)
  named_by name words xs true h = h
  named_by name words xs false h = tt

  offer_named : (name words : List ℕ) (es : List (ToolLocation × List ℕ))
      → list_all (λ (e : ToolLocation × List ℕ). bytes_eq e.0.name name) es ≡ true
      → IfSome (suggestion_with_message files words es) (AreNamed name)
  offer_named name words [] h = tt
  offer_named name words (e ∷ es) h =
      named_by name words (filter_map (drafted_edit files) (e ∷ es)) (list_all (is_found files) (e ∷ es))
      (edits_named name (e ∷ es) h)

  pub own_found : (name : List ℕ) (ds : List SuggestionDraft)
      → AllByRecursion (AreFound files) (filter_map (own_suggestion files name) ds)
  own_found name ds =
      all_made (AreFound files) (own_suggestion files name)
      (λ d. either (λ o. IfSome o (AreFound files)) (is_of name d) (found_suggestion files d) None
      (offer_sound d.words d.edits) tt) ds

  pub others_found : (name : List ℕ) (ds : List SuggestionDraft)
      → AllByRecursion (AreFound files) (filter_map (other_suggestion files name) ds)
  others_found name ds =
      all_made (AreFound files) (other_suggestion files name)
      (λ d. either (λ o. IfSome o (AreFound files)) (is_of name d) None (found_suggestion files d) tt
      (offer_sound d.words d.edits)) ds

  abbrev IsOwnBy : List ℕ → List ℕ → SuggestionDraft → Type 0
  IsOwnBy name text d = (is_of name d ≡ true) × IsOfferedBy text d

  abbrev IsOtherBy : List ℕ → List ℕ → SuggestionDraft → Type 0
  IsOtherBy name text d = (is_of name d ≡ false) × IsOfferedBy text d

  own_or_other : (name text : List ℕ) (d : SuggestionDraft) (b : Bool) → is_of name d ≡ b → IsOfferedBy text d
      → IsOwnBy name text d ⊎ IsOtherBy name text d
  own_or_other name text d true e h = inl (e, h)
  own_or_other name text d false e h = inr (e, h)

  -- a proposal over the file, with an edit
  abbrev IsOwn : List ℕ → List ℕ → Suggestion → Type 0
  IsOwn name text o = (o.message ≡ text) × AreSound files o.edits × AreNamed name o

  own_made : (name text : List ℕ) (d : SuggestionDraft) → IsOwnBy name text d
      → (o : Suggestion) × (own_suggestion files name d ≡ Some o) × IsOwn name text o
  own_made name text d h =
      let o = h.1.0 in (
        o,
        ap (λ (b : Bool). if b then found_suggestion files d else None) h.0 ∙ h.1.1,
        (
          h.1.2,
          h.1.3,
          subst (λ (it : Option Suggestion). IfSome it (AreNamed name)) h.1.1 (offer_named name d.words d.edits h.0),
        ),
      )

  other_made : (name text : List ℕ) (d : SuggestionDraft) → IsOtherBy name text d
      → (o : Suggestion) × (other_suggestion files name d ≡ Some o) × ((o.message ≡ text) × AreSound files o.edits)
  other_made name text d h =
      (h.1.0, ap (λ (b : Bool). if b then None else found_suggestion files d) h.0 ∙ h.1.1, (h.1.2, h.1.3))

  -- each of the two is there
  named_there : (name : List ℕ) (e : FileEdit) (xs : List FileEdit)
      → AllByRecursion (λ (x : FileEdit). is_in name x ≡ true) xs → Has (Is e) xs
      → Has (λ (x : FileEdit). (is_in name x ≡ true) × (x.edit ≡ e.edit)) xs
  named_there name e [] all h = absurd h
  named_there name e (x ∷ xs) all (inl is) = inl (all.0, ap (λ (k : FileEdit). k.edit) is)
  named_there name e (x ∷ xs) all (inr h) = inr (named_there name e xs all.1 h)

  fix_there : (name text : List ℕ) (o : Suggestion) → IsOwn name text o
      → Has (IsFixOf text) (main_fixes (Some name) o)
  fix_there name text o h =
      let edit = h.1.1 in
      has_each (HasEdit o.message o.applicability edit.0.edit) (IsFixOf text) (λ fix it. it.0 ∙ h.0)
      (fixes_in name o.message o)
      (fixes_have name o.message o.applicability edit.0.edit o.edits
      (named_there name edit.0 o.edits h.2 edit.1))

  pub fixes_there : (name text : List ℕ) (ds : List SuggestionDraft) → Has (IsOwnBy name text) ds
      → Has (IsFixOf text) (fixes_over name (filter_map (own_suggestion files name) ds))
  fixes_there name text ds h =
      has_flat (IsOwn name text) (IsFixOf text) (main_fixes (Some name)) (fix_there name text)
      (filter_map (own_suggestion files name) ds)
      (has_made (IsOwnBy name text) (IsOwn name text) (own_suggestion files name) (own_made name text) ds h)

-- ---- a report over a file as a whole

no_fixes : (offers : List Suggestion) → flat_map (main_fixes None) offers ≡ []
no_fixes [] = refl
no_fixes (o ∷ os) = no_fixes os

none_there : (P : FixModel → Type 0) (xs : List FixModel) → xs ≡ [] → Any P xs → ⊥
none_there P [] e h = let less = h.2 in omega (arith, less)
none_there P (x ∷ xs) e h = cc

module _ (fixes : List FixModel) (source : Source) (says : MessageParts) (offers : List Suggestion) (text : List ℕ)
  where
    abbrev bare : List (List ℕ) → Tree
    bare ts = report_tree says (record { marks = []; files = []; texts = ts }) offers

    over_bare : (ts : List (List ℕ)) → IsInReport (bare ts) text
        → IsInReport (with_fixes fixes (with_source source (bare ts))) text
    over_bare ts (inl kept) = inl kept
    over_bare ts (inr (inl help)) = inr (inl help)
    over_bare ts (inr (inr (inl fix))) =
        absurd (none_there (IsFixOf text) (flat_map (main_fixes None) offers) (no_fixes offers) fix)
    over_bare ts (inr (inr (inr related))) = inr (inr (inr related))

    over_stands : (done : LabelLists) → IsUnmarked done → IsInReport (report_tree says done offers) text
        → IsInReport (with_fixes fixes (with_source source (report_tree says done offers))) text
    over_stands done h stands =
        subst (λ (it : LabelLists). IsInReport (with_fixes fixes (with_source source (report_tree says it offers))) text)
        (sym h.1) (over_bare h.0 (subst (λ (it : LabelLists). IsInReport (report_tree says it offers) text) h.1 stands))

module _ (files : List ℕ → Option Source) (says : MessageParts) (told : List Annotation) (ds : List SuggestionDraft)
    (text : List ℕ) where
  abbrev Over : Option (List ℕ × Source) → Type 0
  Over o = IsInReport (tree_over files says told ds o) text

  abbrev lifted : (file : List ℕ × Source) → IsUnmarked (label_lists files told)
      → IsInReport (report_tree says (label_lists files told) (filter_map (other_suggestion files file.0) ds)) text
      → Over (Some file)
  lifted file none =
      over_stands (fixes_over file.0 (filter_map (own_suggestion files file.0) ds)) file.1 says
      (filter_map (other_suggestion files file.0) ds) text (label_lists files told) none

  abbrev IsPlain : Option (List ℕ × Source) → Type 0
  IsPlain o = IfSome o (λ file. IsUnmarked (label_lists files told))

  pub annotation_over : (o : Option (List ℕ × Source)) → IsPlain o → Says told text → Over o
  annotation_over None plain h = told_stands files says told (found_suggestions files ds) text h
  annotation_over (Some file) plain h =
      lifted file plain (told_stands files says told (filter_map (other_suggestion files file.0) ds) text h)

  pub help_over : (o : Option (List ℕ × Source)) → IsPlain o → IsRowIn text says.help → Over o
  help_over None plain h = help_stands files says told (found_suggestions files ds) text h
  help_over (Some file) plain h =
      lifted file plain (help_stands files says told (filter_map (other_suggestion files file.0) ds) text h)

  pub offered_over : (o : Option (List ℕ × Source)) → IsPlain o → Has (IsOfferedBy files text) ds → Over o
  offered_over None plain h =
      offered_stands files says told (found_suggestions files ds) text
      (has_made (IsOfferedBy files text) (IsOffered files says told (found_suggestions files ds) text)
      (found_suggestion files)
      (λ d it. (it.0, it.1, (it.2, it.3))) ds h)
  offered_over (Some file) plain h =
      let name = file.0 in
      let others = filter_map (other_suggestion files name) ds in
      elim (has_split (IsOwnBy files name text) (IsOtherBy files name text) ds
      (has_each (IsOfferedBy files text) (λ d. IsOwnBy files name text d ⊎ IsOtherBy files name text d)
      (λ d. own_or_other files name text d (is_of name d) refl) ds h)) [
        | inl own ↦
            inr (inr (inl (has_any (IsFixOf text) (fixes_over name (filter_map (own_suggestion files name) ds))
            (fixes_there files name text ds own))))
        | inr other ↦
            lifted file plain (offered_stands files says told others text
            (has_made (IsOtherBy files name text) (IsOffered files says told others text) (other_suggestion files name)
            (other_made files name text) ds other))
      ]

plain_by : (files : List ℕ → Option Source) (k : FileAnnotations) (b : Bool) → is_some (found_file files k) ≡ b
    → (o : Option (List ℕ × Source))
    → IfSome (if b then None else o) (λ file. IsUnmarked (label_lists files (all_annotations files k)))
plain_by files k true e o = tt
plain_by files k false e None = tt
plain_by files k false e (Some file) = none_marked files k e

either_named : (files : List ℕ → Option Source) (b : Bool) (o : Option (List ℕ))
    → option_and_then (file_named files) (if b then None else o)
    ≡ (if b then None else option_and_then (file_named files) o)
either_named files true o = refl
either_named files false o = refl

-- a report over a file as a whole has no label
pub whole_plain : (files : List ℕ → Option Source) (k : FileAnnotations)
    → IfSome (option_and_then (file_named files) (own_whole_file files k))
    (λ file. IsUnmarked (label_lists files (all_annotations files k)))
whole_plain files k =
    let b = is_some (found_file files k) in
    let first = find (is_there files) k.wholes in
    subst (λ (o : Option (List ℕ × Source)). IfSome o (λ file. IsUnmarked (label_lists files
    (all_annotations files k))))
    (sym (either_named files b first)) (plain_by files k b refl (option_and_then (file_named files) first))

-- what it says itself is the same
pub tree_says : (files : List ℕ → Option Source) (says : MessageParts) (told : List Annotation)
    (ds : List SuggestionDraft)
    (o : Option (List ℕ × Source)) → (head (tree_over files says told ds o)).message ≡ says.message
tree_says files says told ds None = (report_says says (label_lists files told) (found_suggestions files ds)).0
tree_says files says told ds (Some file) =
    (report_says says (label_lists files told) (filter_map (other_suggestion files file.0) ds)).0
