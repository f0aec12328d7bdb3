-- Files that are changed, one after another.
use Rattle.std.proofs.Common.{◌≡◌, ℕ, List, [], ◌∷◌, ◌++◌, Bool, true, false, map, Option, Some, None, All, refl, Ok}
use Rattle.std.proofs.Common.{◌+◌, ◌<◌, ◌⊎◌, ◌↔◌, ◌∙◌, sym, ap, ap₂, subst, append_assoc, append-nil, inl, inr, IsTrue}
use Rattle.std.proofs.Common.{Err, drop, get_or, length, take}
use Rattle.std.specs.Prelude.{◌&&◌, is_some}
use Rattle.std.specs.List.{flat_map, list_all}
use Rattle.std.specs.Io.KnownBytes.{Appends}
use Rattle.std.proofs.KnownBytes.{Appends-nil, Appends-trans}
use Rattle.std.proofs.lemmas.List.{map-append, take-append-drop}
use Rattle.std.proofs.lemmas.List.Concat.{flat_map-append}
use Rattle.std.proofs.lemmas.List.Elements.{All-nil, All-push}
use Rattle.std.proofs.lemmas.List.Folds.{list_all-append}
use Rattle.miette_fixes.specs.rules.ApplyingAll.{taken}
use Rattle.miette_fixes.specs.rules.Edits.{FixModel}
use Rattle.miette_show_rows.specs.rules.FixesByFile.{text_after_fixes}
use Rattle.miette_protocol.specs.rules.Reading.{Source}
use Rattle.miette_read.proofs.Steps.{next_taken}
use Rattle.miette_devices.specs.declared.fault.ProgramError.{ProgramError}
use Rattle.miette_devices.specs.views.Device.{TakesBeginning}
use Rattle.miette_show_rows.specs.rules.Looking.{leads_out}
use Rattle.miette_show_rows.specs.rules.FixesFiles.{FileChange, Changes, ChangesFirst, IsChange, HasTextAfterFixes}
use Rattle.miette_show_rows.specs.rules.FixesFiles.{IsOutcome, fault_if_unwritten}
use Rattle.miette_show_rows.specs.rules.FixesFiles.{change_fault, is_written, row_if_written, change_row, written_as}
use Rattle.miette_show_rows.specs.rules.FixesFiles.{written_by_change}
use Rattle.miette_show_rows.specs.views.Writing.{Writes}
use Rattle.miette_show_rows.proofs.Beginnings.{all_taken, taken_then}

abbrev Told : Type 0
Told = Option (List (List ℕ × List ℕ))

pub writes_nil : (a : Told) → Writes a a []
writes_nil None = tt
writes_nil (Some x) = sym (append-nil x)

pub writes_then : (a b c : Told) (m n : List (List ℕ × List ℕ)) → Writes a b m → Writes b c n → Writes a c (m ++ n)
writes_then None b c m n p q = tt
writes_then (Some x) None c m n p q = absurd p
writes_then (Some x) (Some y) None m n p q = absurd q
writes_then (Some x) (Some y) (Some z) m n p q = q ∙ ap (λ l. l ++ n) p ∙ append_assoc x m n

flat_more : {X Y : Type 0} (f : X → List Y) (xs : List X) (x : X) → flat_map f (xs ++ x ∷ []) ≡ flat_map f xs ++ f x
flat_more f xs x = flat_map-append f xs (x ∷ []) ∙ ap (λ l. flat_map f xs ++ l) (append-nil (f x))

and_true : (b : Bool) → (b && true) ≡ b
and_true true = refl
and_true false = refl

-- after what was done neither writer has failed
pub neither_failed : {A : Type 0} (a b : Bool) (x : A) (f : ProgramError) → ((IsTrue a ⊎ IsTrue b) ↔ (Ok x ≡ Err f))
    → (a ≡ false) × (b ≡ false)
neither_failed false false x f h = (refl, refl)
neither_failed true b x f h = absurd (let e : Ok x ≡ Err f = h.0 (inl refl) in cc)
neither_failed false true x f h = absurd (let e : Ok x ≡ Err f = h.0 (inr refl) in cc)

-- the text that was made of a file's bytes is that after its fixes
pub mended_by : (source : Option Source) (file : Source) (bytes : List ℕ) (held fixes : List FixModel) (text : List ℕ)
    (which : List Bool) → Some file ≡ source → bytes ≡ file.bytes → held ≡ fixes → text ≡ text_after_fixes bytes held
    → which ≡ taken (length bytes) [] (map (λ fix. fix.edits) held) → HasTextAfterFixes source fixes text which
mended_by source file bytes held fixes text which there is same text_is taken_is =
    subst (λ (o : Option Source). HasTextAfterFixes o fixes text which) there (
      text_is ∙ ap₂ text_after_fixes is same,
      taken_is
          ∙ ap₂ (λ (b : List ℕ) (f : List FixModel). taken (length b) [] (map (λ fix. fix.edits) f)) is same,
    )

-- what is passed and what is left
pub parted : {X Y : Type 0} (look : X → Y) (xs : List X) (i : ℕ)
    → map look xs ≡ map look (take i xs) ++ map look (drop i xs)
parted look xs i = ap (map look) (sym (take-append-drop i xs)) ∙ map-append look (take i xs) (drop i xs)

-- one more is passed
pub one_passed : {X Y : Type 0} (look : X → Y) (xs : List X) (i : ℕ) (x : X) (y : Y) → i < length xs → x ≡ get_or xs i x
    → y ≡ look x → map look (take i xs) ++ y ∷ [] ≡ map look (take (i + 1) xs)
one_passed look xs i x y h is same =
    ap (λ z. map look (take i xs) ++ z ∷ []) same
    ∙ sym (ap (map look) (next_taken xs i x h is) ∙ map-append look (take i xs) (x ∷ []))

abbrev name_of : FileChange → List ℕ
name_of c = c.name

-- Files of these names are changed, the store was given their texts, and the writers took what is said of them.
pub record Changing (files : List ℕ → Option Source) (refuses : List ℕ → Type 0) (fixes : List ℕ → List FixModel)
    (names : List (List ℕ)) (all : Bool) (put kept : Option (List (List ℕ × List ℕ)))
    (old new before after : Option (List ℕ)) : Type 0 where
  pub changes : List FileChange
  pub named : map (λ (c : FileChange). c.name) changes ≡ names
  pub each : All (IsChange files refuses fixes) changes
  pub done : all ≡ list_all is_written changes
  pub written : Writes put kept (flat_map written_by_change changes)
  pub said : Appends old new (flat_map change_row changes)
  pub noted : Appends before after (flat_map change_fault changes)

module _ (files : List ℕ → Option Source) (refuses : List ℕ → Type 0) (fixes : List ℕ → List FixModel) where
  pub begin : (all : Bool) (put : Option (List (List ℕ × List ℕ))) (old before : Option (List ℕ)) → all ≡ true
      → Changing files refuses fixes [] all put put old old before before
  begin all put old before is = record {
    changes = [];
    named = refl;
    each = All-nil (IsChange files refuses fixes);
    done = is;
    written = writes_nil put;
    said = Appends-nil old;
    noted = Appends-nil before;
  }

  pub more : (names : List (List ℕ)) (all done made : Bool) (put kept later : Option (List (List ℕ × List ℕ)))
      (old new newer before after then : Option (List ℕ)) (name text : List ℕ) (which : Option (List Bool))
      → Changing files refuses fixes names all put kept old new before after
      → IsOutcome (files name) (refuses name) (leads_out name) (fixes name) text which
      → Writes kept later (written_as name text which) → done ≡ is_some which
      → Appends new newer (row_if_written name which)
      → Appends after then (fault_if_unwritten name which)
      → made ≡ (all && done)
      → Changing files refuses fixes (names ++ name ∷ []) made put later old newer before then
  more names all done made put kept later old new newer before after then name text which p is wrote done_is said
      noted made_is =
      let c : FileChange = record { name = name; text = text; taken = which } in
      record {
        changes = p.changes ++ c ∷ [];
        named = map-append name_of p.changes (c ∷ []) ∙ ap (λ l. l ++ name ∷ []) p.named;
        each = All-push (IsChange files refuses fixes) p.changes c p.each is;
        done = made_is ∙ ap₂ (λ (a b : Bool). a && b) p.done done_is
            ∙ sym (list_all-append is_written p.changes (c ∷ [])
            ∙ ap (λ b. list_all is_written p.changes && b) (and_true (is_written c)));
        written = subst (Writes put later) (sym (flat_more written_by_change p.changes c))
            (writes_then put kept later (flat_map written_by_change p.changes) (written_as name text which) p.written
            wrote);
        said = subst (Appends old newer) (sym (flat_more change_row p.changes c))
            (Appends-trans old new newer (flat_map change_row p.changes) (row_if_written name which) p.said said);
        noted = subst (Appends before then) (sym (flat_more change_fault p.changes c))
            (Appends-trans before after then (flat_map change_fault p.changes) (fault_if_unwritten name which) p.noted
            noted);
      }

  pub all_changed : (names last : List (List ℕ)) (all : Bool) (put kept : Option (List (List ℕ × List ℕ)))
      (old new before after : Option (List ℕ)) → names ≡ last
      → Changing files refuses fixes names all put kept old new before after
      → Changes files refuses fixes last (λ changes. (all ≡ list_all is_written changes)
      × Writes put kept (flat_map written_by_change changes) × Appends old new (flat_map change_row changes)
      × Appends before after (flat_map change_fault changes))
  all_changed names last all put kept old new before after same p =
      (p.changes, p.named ∙ same, p.each, (p.done, p.written, p.said, p.noted))

  -- ---- after an error

  -- those before this one
  pub first_still : (names others last : List (List ℕ)) (all : Bool)
      (put kept later : Option (List (List ℕ × List ℕ))) (old new before after : Option (List ℕ))
      → Changing files refuses fixes names all put kept old new before after → Writes kept later []
      → last ≡ names ++ others
      → ChangesFirst files refuses fixes last (λ changes. Writes put later (flat_map written_by_change changes)
      × TakesBeginning old new (flat_map change_row changes) × TakesBeginning before after
      (flat_map change_fault changes))
  first_still names others last all put kept later old new before after p none is = (
    p.changes,
    others,
    is ∙ ap (λ l. l ++ others) (sym p.named),
    p.each,
    (
      subst (Writes put later) (append-nil (flat_map written_by_change p.changes))
          (writes_then put kept later (flat_map written_by_change p.changes) [] p.written none),
      all_taken old new (flat_map change_row p.changes) p.said,
      all_taken before after (flat_map change_fault p.changes) p.noted,
    ),
  )

  -- and this one
  pub first_more : (names others last : List (List ℕ)) (all : Bool)
      (put kept later : Option (List (List ℕ × List ℕ))) (old new newer before after then : Option (List ℕ))
      (name text : List ℕ) (which : Option (List Bool))
      → Changing files refuses fixes names all put kept old new before after
      → IsOutcome (files name) (refuses name) (leads_out name) (fixes name) text which
      → Writes kept later (written_as name text which) → last ≡ (names ++ name ∷ []) ++ others
      → TakesBeginning new newer (row_if_written name which) × TakesBeginning after then (fault_if_unwritten name which)
      → ChangesFirst files refuses fixes last (λ changes. Writes put later (flat_map written_by_change changes)
      × TakesBeginning old newer (flat_map change_row changes) × TakesBeginning before then
      (flat_map change_fault changes))
  first_more names others last all put kept later old new newer before after then name text which p outcome wrote is
      took =
      let c : FileChange = record { name = name; text = text; taken = which } in (
        p.changes ++ c ∷ [],
        others,
        is ∙ ap (λ l. l ++ others)
            (sym (map-append name_of p.changes (c ∷ []) ∙ ap (λ l. l ++ name ∷ []) p.named)),
        All-push (IsChange files refuses fixes) p.changes c p.each outcome,
        (
          subst (Writes put later) (sym (flat_more written_by_change p.changes c))
              (writes_then put kept later (flat_map written_by_change p.changes) (written_as name text which) p.written
              wrote),
          subst (TakesBeginning old newer) (sym (flat_more change_row p.changes c))
              (taken_then old new newer (flat_map change_row p.changes) (row_if_written name which) p.said took.0),
          subst (TakesBeginning before then) (sym (flat_more change_fault p.changes c))
              (taken_then before after then (flat_map change_fault p.changes) (fault_if_unwritten name which) p.noted
              took.1),
        ),
      )
