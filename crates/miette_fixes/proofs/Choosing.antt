-- What holds of the fixes that count, and of those that are left, after some of them.
use Rattle.std.proofs.Common.{ℕ, suc, ◌+◌, ◌<◌, ◌≡◌, Bool, true, false, List, [], ◌∷◌, ◌++◌, refl, sym, ap, ◌∙◌, arith}
use Rattle.std.proofs.Common.{append_assoc, length, subst}
use Rattle.std.specs.Prelude.{◌≢◌, None}
use Rattle.std.specs.BTreeMap.{BTreeMap, IsEmpty}
use Rattle.std.proofs.lemmas.List.{length-append}
use Rattle.miette_fixes.specs.declared.edit_starts.EditStart.{EditStart}
use Rattle.miette_fixes.specs.laws.Conflicts.{NoTwoConflict}
use Rattle.miette_fixes.specs.rules.Applying.{edits_error}
use Rattle.miette_fixes.specs.rules.ApplyingAll.{all_edits, counted, counted_with, counts, equals_some_fix, is_taken}
use Rattle.miette_fixes.specs.rules.ApplyingAll.{taken}
use Rattle.miette_fixes.specs.rules.Edits.{Replacement, some_overlap}
use Rattle.miette_fixes.specs.steps.EditStarts.{AreEditStarts}
use Rattle.miette_fixes.proofs.Apart.{AreFree, count_free, each_free, free_more, no_two}
use Rattle.miette_fixes.proofs.Begins.{begun_none}
use Rattle.miette_fixes.proofs.Overlaps.{none_refused, unrefused}
use Rattle.miette_fixes.proofs.Taking.{all_of_more, counted_fit}

-- Of fixes that are given, after some: those that count can be applied together, no two of them conflict, and where
-- their edits begin is kept as long as some are left; what comes of the fixes that are left is what comes of all.
pub record AreChosen (n : ℕ) (given rest before : List (List Replacement)) (begun : BTreeMap ℕ EditStart)
    (flags : List Bool) : Type 0 where
  pub fit : edits_error n (all_edits before) ≡ None
  pub free : AreFree before
  pub begins : 0 < length rest → AreEditStarts begun before
  pub lists : counted n before rest ≡ counted n [] given
  pub answers : flags ++ taken n before rest ≡ taken n [] given

pub chosen_start : (n : ℕ) (given before : List (List Replacement)) (begun : BTreeMap ℕ EditStart) (flags : List Bool)
    → before ≡ [] → IsEmpty begun → flags ≡ [] → AreChosen n given given before begun flags
chosen_start n given before begun flags b empty f =
    subst (λ (x : List (List Replacement)). AreChosen n given given x begun flags) (sym b)
    (subst (λ (x : List Bool). AreChosen n given given [] begun x) (sym f) (record {
      fit = unrefused n [] refl refl;
      free = tt;
      begins = λ _. begun_none begun empty;
      lists = refl;
      answers = refl;
    }))

pub chosen_apart : (n : ℕ) (given rest before : List (List Replacement)) (begun : BTreeMap ℕ EditStart)
    (flags : List Bool) → AreChosen n given rest before begun flags → some_overlap (all_edits before) ≡ false
chosen_apart n given rest before begun flags h = (none_refused n (all_edits before) h.fit).1

pub chosen_free : (n : ℕ) (given rest before : List (List Replacement)) (begun : BTreeMap ℕ EditStart)
    (flags : List Bool) → AreChosen n given rest before begun flags → NoTwoConflict before
chosen_free n given rest before begun flags h = λ i j lt within. no_two before i j h.free lt within

-- where their edits begin is kept as long as a fix is left
pub chosen_begun : (n : ℕ) (given rest after before : List (List Replacement)) (begun : BTreeMap ℕ EditStart)
    (fix : List Replacement) (flags : List Bool) → AreChosen n given rest before begun flags → rest ≡ fix ∷ after
    → AreEditStarts begun before
chosen_begun n given rest after before begun fix flags h is =
    let many : length rest ≡ suc (length after) = ap length is in h.begins (omega (arith, many))

taken_length : (n : ℕ) (before fixes : List (List Replacement)) → length (taken n before fixes) ≡ length fixes
taken_length n before [] = refl
taken_length n before (f ∷ fixes) = ap suc (taken_length n (counted_with n before f) fixes)

-- more fixes are left after one than flags tell
pub chosen_last : (n : ℕ) (given rest after before : List (List Replacement)) (begun : BTreeMap ℕ EditStart)
    (fix : List Replacement) (flags : List Bool) → AreChosen n given rest before begun flags → rest ≡ fix ∷ after
    → 0 < length after → length flags + 1 < length given
chosen_last n given rest after before begun fix flags h is some =
    let many : length rest ≡ suc (length after) = ap length is in
    let all : length flags + length (taken n before rest) ≡ length (taken n [] given) =
    sym (length-append flags (taken n before rest)) ∙ ap length h.answers in
    omega (arith, many, all, some, taken_length n before rest, taken_length n [] given)

-- ---- a fix that counts

chosen_more : (n : ℕ) (given rest after before : List (List Replacement)) (begun new : BTreeMap ℕ EditStart)
    (fix : List Replacement) (flags : List Bool) → AreChosen n given rest before begun flags → rest ≡ fix ∷ after
    → counts n (all_edits before) fix ≡ true → (0 < length after → AreEditStarts new (before ++ fix ∷ []))
    → AreChosen n given after (before ++ fix ∷ []) new (flags ++ true ∷ [])
chosen_more n given rest after before begun new fix flags h is met begins =
    let next : counted_with n before fix ≡ before ++ fix ∷ [] = rw met refl in
    let flag : is_taken n before fix ≡ true = rw met refl in
    record {
      fit = ap (edits_error n) (all_of_more before fix) ∙ counted_fit n (all_edits before) fix h.fit met;
      free = free_more before fix h.free (each_free fix before (count_free n before fix met));
      begins = begins;
      lists = ap (λ b. counted n b after) (sym next) ∙ ap (counted n before) (sym is) ∙ h.lists;
      answers = append_assoc flags (true ∷ []) (taken n (before ++ fix ∷ []) after)
          ∙ ap (λ r. flags ++ r) (ap (λ b. true ∷ taken n b after) (sym next)
          ∙ ap (λ x. x ∷ taken n (counted_with n before fix) after) (sym flag) ∙ ap (taken n before) (sym is))
          ∙ h.answers;
    }

pub chosen_then : (n : ℕ) (given rest after before more : List (List Replacement)) (begun new : BTreeMap ℕ EditStart)
    (fix : List Replacement) (flags flags' : List Bool) → AreChosen n given rest before begun flags
    → rest ≡ fix ∷ after → counts n (all_edits before) fix ≡ true → (0 < length after
    → AreEditStarts new (before ++ fix ∷ []))
    → more ≡ before ++ fix ∷ [] → flags' ≡ flags ++ true ∷ [] → AreChosen n given after more new flags'
chosen_then n given rest after before more begun new fix flags flags' h is met begins b f =
    subst (λ (x : List (List Replacement)). AreChosen n given after x new flags') (sym b)
    (subst (λ (x : List Bool). AreChosen n given after (before ++ fix ∷ []) new x) (sym f)
    (chosen_more n given rest after before begun new fix flags h is met begins))

-- ---- one that doesn't count

chosen_not : (n : ℕ) (given rest after before : List (List Replacement)) (begun : BTreeMap ℕ EditStart)
    (fix : List Replacement) (flags : List Bool) → AreChosen n given rest before begun flags → rest ≡ fix ∷ after
    → counts n (all_edits before) fix ≡ false
    → AreChosen n given after before begun (flags ++ equals_some_fix fix before ∷ [])
chosen_not n given rest after before begun fix flags h is met =
    let next : counted_with n before fix ≡ before = rw met refl in
    let flag : is_taken n before fix ≡ equals_some_fix fix before = rw met refl in
    record {
      fit = h.fit;
      free = h.free;
      begins = λ _. chosen_begun n given rest after before begun fix flags h is;
      lists = ap (λ b. counted n b after) (sym next) ∙ ap (counted n before) (sym is) ∙ h.lists;
      answers = append_assoc flags (equals_some_fix fix before ∷ []) (taken n before after)
          ∙ ap (λ r. flags ++ r) (ap (λ b. equals_some_fix fix before ∷ taken n b after) (sym next)
          ∙ ap (λ x. x ∷ taken n (counted_with n before fix) after) (sym flag) ∙ ap (taken n before) (sym is))
          ∙ h.answers;
    }

pub chosen_else : (n : ℕ) (given rest after before more : List (List Replacement)) (begun new : BTreeMap ℕ EditStart)
    (fix : List Replacement) (flags flags' : List Bool) → AreChosen n given rest before begun flags
    → rest ≡ fix ∷ after → counts n (all_edits before) fix ≡ false → more ≡ before → new ≡ begun
    → flags' ≡ flags ++ equals_some_fix fix before ∷ [] → AreChosen n given after more new flags'
chosen_else n given rest after before more begun new fix flags flags' h is met b m f =
    subst (λ (x : List (List Replacement)). AreChosen n given after x new flags') (sym b)
    (subst (λ (x : BTreeMap ℕ EditStart). AreChosen n given after before x flags') (sym m)
    (subst (λ (x : List Bool). AreChosen n given after before begun x) (sym f)
    (chosen_not n given rest after before begun fix flags h is met)))

-- its edits are some
pub some_edits : (n : ℕ) (others edits : List Replacement) → counts n others edits ≡ false → edits ≢ []
some_edits n others edits h = λ e. let bad : true ≡ false = sym (ap (counts n others) e) ∙ h in cc
