-- Parts that were shown, one after another.
use Rattle.std.proofs.Common.{◌≡◌, ℕ, ◌+◌, ◌<◌, List, [], ◌∷◌, ◌++◌, Bool, true, false, length, map, Option}
use Rattle.std.proofs.Common.{Some, None, IfSome, All, refl, sym, ap, ap₂, ◌∙◌, arith, append_assoc, append-nil, subst}
use Rattle.std.specs.Prelude.{◌||◌}
use Rattle.std.specs.List.{list_any}
use Rattle.std.specs.Io.KnownBytes.{Appends}
use Rattle.std.proofs.KnownBytes.{Appends-nil, Appends-trans}
use Rattle.std.proofs.lemmas.List.{map-append}
use Rattle.std.proofs.lemmas.List.Concat.{flat_map-append}
use Rattle.std.proofs.lemmas.List.Elements.{All-nil, All-cons, All-append}
use Rattle.std.proofs.lemmas.List.Folds.{list_any-append}
use Rattle.miette_protocol.specs.rules.Reading.{Source}
use Rattle.miette_devices.specs.views.Device.{TakesBeginning}
use Rattle.miette_tree.specs.rules.Tree.{Tree}
use Rattle.miette_show_rows.specs.rules.Parts.{count_row_ends, parts_of}
use Rattle.miette_show.specs.rules.ShownRow.{ShowsFirst, IsShown, ShownRow, Shows, is_error, is_unread}
use Rattle.miette_show_rows.specs.rules.Notes.{kind_is_error, kind_is_read, kind_is_unread}
use Rattle.miette_show.specs.rules.ShownRow.{is_read, notes_from, passed_on, text_of}
use Rattle.miette_show.specs.rules.ValueKinds.{is_missing}
use Rattle.miette_show_rows.specs.views.Reading.{IsNextPart}
use Rattle.miette_show_rows.specs.declared.verdict.RowKind.{RowKind}
use Rattle.miette_show_rows.specs.declared.verdict.Verdict.{Verdict}
use Rattle.miette_show.specs.declared.words.Format.{Format}
use Rattle.miette_show_rows.proofs.Beginnings.{all_taken, taken_then}
use Rattle.miette_show_rows.proofs.PartSteps.{PartsLeft, first_parts, parts_begin, parts_end, parts_more}

abbrev row_of : ShownRow → List ℕ
row_of s = s.row

-- how many rows end in those that were shown
abbrev ends_before : List ShownRow → ℕ
ends_before [] = 0
ends_before (s ∷ ss) = count_row_ends s.row + ends_before ss

notes_more : (n : ℕ) (ss : List ShownRow) (s : ShownRow) (m : ℕ) → m ≡ ends_before ss + n
    → notes_from n (ss ++ s ∷ []) ≡ notes_from n ss ++ passed_on m s.kind s.row
notes_more n [] s m e =
    let same : n ≡ m = omega (arith, e) in
    append-nil (passed_on n s.kind s.row) ∙ ap (λ (k : ℕ). passed_on k s.kind s.row) same
notes_more n (x ∷ xs) s m e =
    let k = n + count_row_ends x.row in
    let same : m ≡ ends_before xs + k = omega (arith, e) in
    ap (λ l. passed_on n x.kind x.row ++ l) (notes_more k xs s m same)
    ∙ sym (append_assoc (passed_on n x.kind x.row) (notes_from k xs) (passed_on m s.kind s.row))

any_more : (p : ShownRow → Bool) (ss : List ShownRow) (s : ShownRow) (b : Bool) → p s ≡ b
    → list_any p (ss ++ s ∷ []) ≡ (list_any p ss || b)
any_more p ss s b e = list_any-append p ss (s ∷ []) ∙ ap (λ c. list_any p ss || c) (one (p s) ∙ e) where
  one : (c : Bool) → (c || false) ≡ c
  one true = refl
  one false = refl

ends_more : (ss : List ShownRow) (s : ShownRow) → ends_before (ss ++ s ∷ []) ≡ ends_before ss + count_row_ends s.row
ends_more [] s = omega arith
ends_more (x ∷ xs) s =
    let h : ends_before (xs ++ s ∷ []) ≡ ends_before xs + count_row_ends s.row = ends_more xs s in omega (arith, h)

abbrev verdict_by : Bool → Bool → Verdict
verdict_by unread error = record { unread = unread; error = error }

text_more : (ss : List ShownRow) (s : ShownRow) → text_of (ss ++ s ∷ []) ≡ text_of ss ++ s.text
text_more ss s = flat_map-append (λ (x : ShownRow). x.text) ss (s ∷ []) ∙ ap (λ l. text_of ss ++ l) (append-nil s.text)

-- what is told of these parts, but for what is missing
abbrev told_so_far : List ShownRow → Verdict
told_so_far shown = verdict_by (list_any is_unread shown) (list_any is_error shown)

-- These parts were shown, what is left is left, and the writers took their texts and notes.
pub record Progress (from : Format) (gives : Tree → List ℕ → Type 0)
    (found : (List ℕ → Option Source) → List (List ℕ) → Type 0) (first left old new before after : Option (List ℕ))
    (number : ℕ) (seen : Bool) (verdict : Verdict) : Type 0 where
  pub shown : List ShownRow
  pub rows : PartsLeft first left (map row_of shown)
  pub each : All (IsShown from gives found) shown
  pub text : Appends old new (text_of shown)
  pub notes : Appends before after (notes_from 1 shown)
  pub count : number ≡ ends_before shown + 1
  pub saw : seen ≡ list_any is_read shown
  pub is : verdict ≡ told_so_far shown

module _ (from : Format) (gives : Tree → List ℕ → Type 0)
    (found : (List ℕ → Option Source) → List (List ℕ) → Type 0) where
  pub begin : (first old before : Option (List ℕ)) (number : ℕ) (verdict : Verdict) → number ≡ 1
      → verdict ≡ record { unread = false; error = false }
      → Progress from gives found first first old old before before number false verdict
  begin first old before number verdict one none = record {
    shown = [];
    rows = parts_begin first;
    each = All-nil (IsShown from gives found);
    text = Appends-nil old;
    notes = Appends-nil before;
    count = one;
    saw = refl;
    is = none;
  }

  pub more : (first left next old new newer before after later : Option (List ℕ)) (number : ℕ) (seen sees : Bool)
      (verdict made : Verdict) (row : List ℕ) (kind : RowKind) (text : List ℕ) (following : ℕ) → 0 < length row
      → Progress from gives found first left old new before after number seen verdict → IsNextPart left next row
      → IsShown from gives found (record { row = row; kind = kind; text = text }) → Appends new newer text
      → Appends after later (passed_on number kind row)
      → made ≡ record { unread = verdict.unread || kind_is_unread kind; error = verdict.error || kind_is_error kind }
      → sees ≡ (seen || kind_is_read kind) → following ≡ number + count_row_ends row
      → Progress from gives found first next old newer before later following sees made
  more first left next old new newer before after later number seen sees verdict made row kind text following some p
      is_next is_shown took said with_it see count_is =
      let s : ShownRow = record { row = row; kind = kind; text = text } in
      let was : verdict ≡ told_so_far p.shown = p.is in
      let unread = ap (λ (v : Verdict). v.unread || kind_is_unread kind) was in
      let error = ap (λ (v : Verdict). v.error || kind_is_error kind) was in
      let counted : number ≡ ends_before p.shown + 1 = p.count in
      record {
        shown = p.shown ++ s ∷ [];
        rows = subst (PartsLeft first next) (sym (map-append row_of p.shown (s ∷ [])))
            (parts_more first left next (map row_of p.shown) row some p.rows is_next);
        each = All-append (IsShown from gives found) p.shown (s ∷ []) p.each
            (All-cons (IsShown from gives found) s [] is_shown (All-nil (IsShown from gives found)));
        text = subst (Appends old newer) (sym (text_more p.shown s))
            (Appends-trans old new newer (text_of p.shown) text p.text took);
        notes = subst (Appends before later) (sym (notes_more 1 p.shown s number counted))
            (Appends-trans before after later (notes_from 1 p.shown) (passed_on number kind row) p.notes said);
        count = omega (arith, counted, count_is, ends_more p.shown s);
        saw = see ∙ ap (λ (b : Bool). b || kind_is_read kind) p.saw
            ∙ sym (any_more is_read p.shown s (kind_is_read kind) refl);
        is = with_it ∙ ap₂ verdict_by
            (unread ∙ sym (any_more is_unread p.shown s (kind_is_unread kind) refl))
            (error ∙ sym (any_more is_error p.shown s (kind_is_error kind) refl));
      }

  pub end : (first left next old new before after : Option (List ℕ)) (number : ℕ) (seen missing : Bool)
      (verdict whole : Verdict) (row : List ℕ) → row ≡ []
      → Progress from gives found first left old new before after number seen verdict → IsNextPart left next row
      → missing ≡ is_missing from seen → whole ≡ record { unread = verdict.unread || missing; error = verdict.error }
      → IfSome first (λ bytes. Shows from gives found bytes
      (λ text notes. Appends old new text × Appends before after notes) whole)
  end first left next old new before after number seen missing verdict whole row none p is_next is_missed is =
      ended first (parts_end first left next (map row_of p.shown) row none p.rows is_next)
    where
      ended : (o : Option (List ℕ)) → IfSome o (λ bytes. map row_of p.shown ≡ parts_of bytes)
          → IfSome o (λ bytes. Shows from gives found bytes
          (λ text notes. Appends old new text × Appends before after notes) whole)
      ended None e = tt
      ended (Some bytes) e = (
        p.shown,
        e,
        p.each,
        (p.text, p.notes),
        is ∙ ap₂ verdict_by
            (ap₂ (λ (v : Verdict) (m : Bool). v.unread || m) p.is (is_missed ∙ ap (is_missing from) p.saw))
            (ap (λ (v : Verdict). v.error) p.is),
      )

  -- ---- after an error

  so_far : (first : Option (List ℕ)) (shown : List ShownRow) (holds : List ℕ → List ℕ → Type 0)
      → IfSome first (λ bytes. (others : List (List ℕ)) × (parts_of bytes ≡ map row_of shown ++ others))
      → All (IsShown from gives found) shown → holds (text_of shown) (notes_from 1 shown)
      → IfSome first (λ bytes. ShowsFirst from gives found bytes holds)
  so_far None shown holds rows each h = tt
  so_far (Some bytes) shown holds rows each h = (shown, rows.0, rows.1, each, h)

  -- the rows before this one
  pub begun : (first left old new before after : Option (List ℕ)) (number : ℕ) (seen : Bool) (verdict : Verdict)
      → Progress from gives found first left old new before after number seen verdict
      → IfSome first (λ bytes. ShowsFirst from gives found bytes
      (λ text notes. TakesBeginning old new text × TakesBeginning before after notes))
  begun first left old new before after number seen verdict p =
      so_far first p.shown (λ text notes. TakesBeginning old new text × TakesBeginning before after notes)
      (first_parts first left (map row_of p.shown) p.rows) p.each
      (all_taken old new (text_of p.shown) p.text, all_taken before after (notes_from 1 p.shown) p.notes)

  -- and a beginning of this one's text, and of what is passed on of it
  pub begun_with : (first left next old new newer before after later : Option (List ℕ)) (number : ℕ) (seen : Bool)
      (verdict : Verdict) (row : List ℕ) (kind : RowKind) (text : List ℕ) → 0 < length row
      → Progress from gives found first left old new before after number seen verdict → IsNextPart left next row
      → IsShown from gives found (record { row = row; kind = kind; text = text }) → TakesBeginning new newer text
      → TakesBeginning after later (passed_on number kind row)
      → IfSome first (λ bytes. ShowsFirst from gives found bytes
      (λ text notes. TakesBeginning old newer text × TakesBeginning before later notes))
  begun_with first left next old new newer before after later number seen verdict row kind text some p is_next is_shown
      took said =
      let s : ShownRow = record { row = row; kind = kind; text = text } in
      so_far first (p.shown ++ s ∷ []) (λ text notes. TakesBeginning old newer text × TakesBeginning before later notes)
      (first_parts first next (map row_of (p.shown ++ s ∷ []))
      (subst (PartsLeft first next) (sym (map-append row_of p.shown (s ∷ [])))
      (parts_more first left next (map row_of p.shown) row some p.rows is_next)))
      (All-append (IsShown from gives found) p.shown (s ∷ []) p.each
      (All-cons (IsShown from gives found) s [] is_shown (All-nil (IsShown from gives found)))) (
        subst (TakesBeginning old newer) (sym (text_more p.shown s))
            (taken_then old new newer (text_of p.shown) text p.text took),
        subst (TakesBeginning before later) (sym (notes_more 1 p.shown s number p.count))
            (taken_then before after later (notes_from 1 p.shown) (passed_on number kind row) p.notes said),
      )
