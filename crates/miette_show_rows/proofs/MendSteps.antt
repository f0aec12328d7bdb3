-- Rows that give fixes, one after another.
use Rattle.std.proofs.Common.{◌≡◌, ℕ, ◌+◌, ◌<◌, List, [], ◌∷◌, ◌++◌, Bool, true, false, length, map, Option, Some, None}
use Rattle.std.proofs.Common.{IfSome, All, refl, sym, ap, ap₂, subst, ◌∙◌, arith, append_assoc, append-nil}
use Rattle.std.specs.Prelude.{◌||◌, IsUtf8, option_and_then, option_to_list}
use Rattle.std.specs.List.{list_any}
use Rattle.std.specs.Io.KnownBytes.{Appends}
use Rattle.std.proofs.KnownBytes.{Appends-nil, Appends-trans}
use Rattle.std.proofs.lemmas.List.{map-append}
use Rattle.std.proofs.lemmas.List.Concat.{flat_map-append}
use Rattle.std.proofs.lemmas.List.Elements.{All-nil, All-cons, All-append}
use Rattle.std.proofs.lemmas.List.Folds.{list_any-append}
use Rattle.serde_json.specs.Data.{Data}
use Rattle.miette_show_rows.specs.rules.Values.{read}
use Rattle.miette_protocol.specs.rules.Reading.{Source}
use Rattle.miette_devices.specs.views.Device.{TakesBeginning}
use Rattle.miette_show_rows.specs.rules.ApplicableFixes.{RowFixes, machine_applicable_fixes}
use Rattle.miette_show_rows.specs.rules.Looking.{Goes, IsFoundBy, named_files}
use Rattle.miette_show_rows.specs.rules.FixesFiles.{LineFixes, LinesGiveFixes, FirstLinesGiveFixes, IsGiving}
use Rattle.miette_show_rows.specs.rules.FixesFiles.{gives_error, given, row_fixes}
use Rattle.miette_show_rows.specs.rules.FixesFiles.{unread_notes, fixes_verdict}
use Rattle.miette_show_rows.specs.rules.Parts.{count_row_ends, parts_of}
use Rattle.miette_show_rows.specs.rules.Rows.{begins_object}
use Rattle.miette_show_rows.specs.rules.Notes.{kind_is_error, kind_is_unread, note_of}
use Rattle.miette_show_rows.specs.views.Reading.{IsNextPart}
use Rattle.miette_show_rows.specs.declared.verdict.RowKind.{RowKind}
use Rattle.miette_show_rows.specs.declared.verdict.RowKind.TheVariants.{Passed, Unread, Messages, Failed}
use Rattle.miette_show_rows.specs.declared.verdict.Verdict.{Verdict}
use Rattle.miette_show_rows.proofs.Beginnings.{all_taken, taken_then}
use Rattle.miette_show_rows.proofs.Going.{found_before}
use Rattle.miette_show_rows.proofs.PartSteps.{PartsLeft, first_parts, parts_begin, parts_end, parts_more}

abbrev Finding : Type 1
Finding = (List ℕ → Option Source) → List (List ℕ) → Type 0

abbrev giving : List ℕ → RowKind → Option RowFixes → LineFixes
giving row kind gives = record { row = row; kind = kind; gives = gives }

-- ---- one row

pub passed_giving : (found : Finding) (files : List ℕ → Option Source) (row : List ℕ) → begins_object row ≡ false
    → IsGiving found (giving row Passed None)
passed_giving found files row not =
    (files, (λ d utf8 begins is. (let no : false ≡ true = sym not ∙ begins in cc)), (not, refl))

pub unread_giving : (found : Finding) (files : List ℕ → Option Source) (row : List ℕ) → begins_object row ≡ true
    → (IsUtf8 row → read row ≡ None) → IsGiving found (giving row Unread None)
unread_giving found files row begins none = (
  files,
  (λ d utf8 b is. (let no : None ≡ Some d = sym (none utf8) ∙ is in cc)),
  (begins, (λ utf8. ap (option_and_then (machine_applicable_fixes files)) (none utf8)), refl),
)

module _ (found : Finding) (files : List ℕ → Option Source) (row : List ℕ) (d : Data)
    (begins : begins_object row ≡ true) (utf8 : IsUtf8 row) (is : read row ≡ Some d)
    (known : found files (named_files d)) where
  says : row_fixes files row ≡ machine_applicable_fixes files d
  says = ap (option_and_then (machine_applicable_fixes files)) is

  same : (e : Data) → read row ≡ Some e → found files (named_files e)
  same e there = subst (λ x. found files (named_files x)) (some_same d e (sym is ∙ there)) known
    where
      some_same : (a b : Data) → Some a ≡ Some b → a ≡ b
      some_same a b e = cc

  pub none_giving : machine_applicable_fixes files d ≡ None → IsGiving found (giving row Unread None)
  none_giving none = (files, (λ e u b there. same e there), (begins, (λ u. says ∙ none), refl))

  pub some_giving : (gives : Option RowFixes) (grave : Bool) → machine_applicable_fixes files d ≡ Some gives
      → grave ≡ gives_error gives → IsGiving found (giving row (Messages grave) gives)
  some_giving gives grave some is = (files, (λ e u b there. same e there), (begins, utf8, says ∙ some, is))

pub giving_before : {F : Type 0} (find : F → List ℕ → Option Source) (knows : F → List ℕ → Type 0) (first second : F)
    (slice row : List ℕ) (kind : RowKind) (gives : Option RowFixes)
    → Goes (find first) (knows first) (find second) (knows second) → slice ≡ row
    → IsGiving (IsFoundBy find knows second) (giving slice kind gives)
    → IsGiving (IsFoundBy find knows first) (giving row kind gives)
giving_before find knows first second slice row kind gives goes same (files, named, is_row) =
    subst (λ (r : List ℕ). IsGiving (IsFoundBy find knows first) (giving r kind gives)) same (
      files,
      (λ d utf8 begins is. found_before find knows first second files (named_files d) goes (named d utf8 begins is)),
      is_row,
    )

-- ---- all parts

abbrev row_of : LineFixes → List ℕ
row_of s = s.row

abbrev is_unread : LineFixes → Bool
is_unread s = kind_is_unread s.kind

abbrev is_error_message : LineFixes → Bool
is_error_message s = kind_is_error s.kind

-- how many rows end in these
abbrev ends_before : List LineFixes → ℕ
ends_before [] = 0
ends_before (s ∷ ss) = count_row_ends s.row + ends_before ss

notes_more : (n : ℕ) (ss : List LineFixes) (s : LineFixes) (m : ℕ) → m ≡ ends_before ss + n
    → unread_notes n (ss ++ s ∷ []) ≡ unread_notes n ss ++ note_of m (is_unread s)
notes_more n [] s m e =
    let same : n ≡ m = omega (arith, e) in
    append-nil (note_of n (is_unread s)) ∙ ap (λ (k : ℕ). note_of k (is_unread s)) same
notes_more n (x ∷ xs) s m e =
    let k = n + count_row_ends x.row in
    let same : m ≡ ends_before xs + k = omega (arith, e) in
    ap (λ l. note_of n (is_unread x) ++ l) (notes_more k xs s m same)
    ∙ sym (append_assoc (note_of n (is_unread x)) (unread_notes k xs) (note_of m (is_unread s)))

ends_more : (ss : List LineFixes) (s : LineFixes) → ends_before (ss ++ s ∷ []) ≡ ends_before ss + count_row_ends s.row
ends_more [] s = omega arith
ends_more (x ∷ xs) s =
    let h : ends_before (xs ++ s ∷ []) ≡ ends_before xs + count_row_ends s.row = ends_more xs s in omega (arith, h)

or_false : (b : Bool) → (b || false) ≡ b
or_false true = refl
or_false false = refl

abbrev verdict_by : Bool → Bool → Verdict
verdict_by unread error = record { unread = unread; error = error }

-- These parts gave fixes, which are added; what is left is left, and the writer took their notes.
pub record Passing (adds : List RowFixes → Type 0) (found : Finding)
    (first left before after : Option (List ℕ)) (number : ℕ) (verdict : Verdict) : Type 0 where
  pub all : List LineFixes
  pub rows : PartsLeft first left (map row_of all)
  pub each : All (IsGiving found) all
  pub added : adds (given all)
  pub notes : Appends before after (unread_notes 1 all)
  pub count : number ≡ ends_before all + 1
  pub is : verdict ≡ fixes_verdict all

module _ (found : Finding) where
  pub begin : (adds : List RowFixes → Type 0) (first before : Option (List ℕ)) (number : ℕ) (verdict : Verdict)
      → number ≡ 1 → verdict ≡ record { unread = false; error = false } → adds []
      → Passing adds found first first before before number verdict
  begin adds first before number verdict one none nothing = record {
    all = [];
    rows = parts_begin first;
    each = All-nil (IsGiving found);
    added = nothing;
    notes = Appends-nil before;
    count = one;
    is = none;
  }

  pub more : (adds adds_then : List RowFixes → Type 0) (first left next before after later : Option (List ℕ))
      (number : ℕ) (verdict made : Verdict) (row : List ℕ) (kind : RowKind) (gives : Option RowFixes) (following : ℕ)
      → 0 < length row → Passing adds found first left before after number verdict → IsNextPart left next row
      → IsGiving found (giving row kind gives)
      → ((all : List RowFixes) → adds all → adds_then (all ++ option_to_list gives))
      → Appends after later (note_of number (kind_is_unread kind))
      → made ≡ record { unread = verdict.unread || kind_is_unread kind; error = verdict.error || kind_is_error kind }
      → following ≡ number + count_row_ends row → Passing adds_then found first next before later following made
  more adds adds_then first left next before after later number verdict made row kind gives following some p is_next
      is_giving add said with_it count_is =
      let s = giving row kind gives in
      let was : verdict ≡ fixes_verdict p.all = p.is in
      let counted : number ≡ ends_before p.all + 1 = p.count in
      let unread : (verdict.unread || kind_is_unread kind) ≡ list_any is_unread (p.all ++ s ∷ []) =
      ap (λ (v : Verdict). v.unread || kind_is_unread kind) was
      ∙ sym (list_any-append is_unread p.all (s ∷ [])
      ∙ ap (λ c. list_any is_unread p.all || c) (or_false (kind_is_unread kind)))
      in
      let error : (verdict.error || kind_is_error kind) ≡ list_any is_error_message (p.all ++ s ∷ []) =
      ap (λ (v : Verdict). v.error || kind_is_error kind) was
      ∙ sym (list_any-append is_error_message p.all (s ∷ [])
      ∙ ap (λ c. list_any is_error_message p.all || c) (or_false (kind_is_error kind)))
      in
      record {
        all = p.all ++ s ∷ [];
        rows = subst (PartsLeft first next) (sym (map-append row_of p.all (s ∷ [])))
            (parts_more first left next (map row_of p.all) row some p.rows is_next);
        each = All-append (IsGiving found) p.all (s ∷ []) p.each
            (All-cons (IsGiving found) s [] is_giving (All-nil (IsGiving found)));
        added = subst adds_then
            (sym (flat_map-append (λ (x : LineFixes). option_to_list x.gives) p.all (s ∷ [])
            ∙ ap (λ l. given p.all ++ l) (append-nil (option_to_list gives))))
            (add (given p.all) p.added);
        notes = subst (Appends before later) (sym (notes_more 1 p.all s number counted))
            (Appends-trans before after later (unread_notes 1 p.all) (note_of number (kind_is_unread kind)) p.notes
            said);
        count = omega (arith, counted, count_is, ends_more p.all s);
        is = with_it ∙ ap₂ (λ (a b : Bool). verdict_by a b) unread error;
      }

  pub end : (adds : List RowFixes → Type 0) (first left next before after : Option (List ℕ)) (number : ℕ)
      (verdict : Verdict) (row : List ℕ) → row ≡ [] → Passing adds found first left before after number verdict
      → IsNextPart left next row
      → IfSome first (λ bytes. LinesGiveFixes found bytes (λ rows notes. adds rows × Appends before after notes)
      verdict)
  end adds first left next before after number verdict row none p is_next =
      ended first (parts_end first left next (map row_of p.all) row none p.rows is_next)
    where
      ended : (o : Option (List ℕ)) → IfSome o (λ bytes. map row_of p.all ≡ parts_of bytes)
          → IfSome o (λ bytes. LinesGiveFixes found bytes (λ rows notes. adds rows × Appends before after notes)
          verdict)
      ended None e = tt
      ended (Some bytes) e = (p.all, e, p.each, (p.added, p.notes), p.is)

  -- ---- after an error

  so_far : (first : Option (List ℕ)) (all : List LineFixes) (holds : List ℕ → Type 0)
      → IfSome first (λ bytes. (others : List (List ℕ)) × (parts_of bytes ≡ map row_of all ++ others))
      → All (IsGiving found) all → holds (unread_notes 1 all) → IfSome first (λ bytes. FirstLinesGiveFixes found bytes
      holds)
  so_far None all holds rows each h = tt
  so_far (Some bytes) all holds rows each h = (all, rows.0, rows.1, each, h)

  -- the notes on the rows before this one
  pub begun : (adds : List RowFixes → Type 0) (first left before after : Option (List ℕ)) (number : ℕ)
      (verdict : Verdict) → Passing adds found first left before after number verdict
      → IfSome first (λ bytes. FirstLinesGiveFixes found bytes (TakesBeginning before after))
  begun adds first left before after number verdict p =
      so_far first p.all (TakesBeginning before after) (first_parts first left (map row_of p.all) p.rows) p.each
      (all_taken before after (unread_notes 1 p.all) p.notes)

  -- and a beginning of that on this one
  pub begun_with : (adds : List RowFixes → Type 0) (first left next before after later : Option (List ℕ)) (number : ℕ)
      (verdict : Verdict) (row : List ℕ) (kind : RowKind) (gives : Option RowFixes) → 0 < length row
      → Passing adds found first left before after number verdict → IsNextPart left next row
      → IsGiving found (giving row kind gives) → TakesBeginning after later (note_of number (kind_is_unread kind))
      → IfSome first (λ bytes. FirstLinesGiveFixes found bytes (TakesBeginning before later))
  begun_with adds first left next before after later number verdict row kind gives some p is_next is_giving said =
      let s = giving row kind gives in
      so_far first (p.all ++ s ∷ []) (TakesBeginning before later)
      (first_parts first next (map row_of (p.all ++ s ∷ []))
      (subst (PartsLeft first next) (sym (map-append row_of p.all (s ∷ [])))
      (parts_more first left next (map row_of p.all) row some p.rows is_next)))
      (All-append (IsGiving found) p.all (s ∷ []) p.each
      (All-cons (IsGiving found) s [] is_giving (All-nil (IsGiving found))))
      (subst (TakesBeginning before later) (sym (notes_more 1 p.all s number p.count))
      (taken_then before after later (unread_notes 1 p.all) (note_of number (kind_is_unread kind)) p.notes said))
