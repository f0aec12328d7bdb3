-- Bytes that begin no sequence.
use Rattle.std.proofs.Common.{◌≡◌, ℕ, zero, suc, ◌+◌, ◌≤◌, Bool, true, false, List, [], ◌∷◌, None, Some, find}
use Rattle.std.proofs.Common.{drop, length, eqb-true, arith, refl, ap, ◌∙◌}
use Rattle.std.specs.Prelude.{◌&&◌, if◌then◌else◌, nat_eq, slice_index}
use Rattle.std.specs.List.{list_all}
use Rattle.std.proofs.lemmas.Bool.{and_parts, false_from_ne_true}
use Rattle.memchr.specs.Find.{IsFirstByte}
use Rattle.miette_read_sarif.specs.rules.Newlines.{end_size, one_more, size_of, stands_in, text_size}
use Rattle.miette_read_sarif.specs.views.Begins.{IsNoneBefore, begins_by}

module _ (test : ℕ → Bool) where
  differ : (x b : ℕ) (t : Bool) (rest : Bool) → nat_eq x b ≡ t → test x ≡ true → test b ≡ false → (t && rest) ≡ false
  differ x b false rest e hit miss = refl
  differ x b true rest e hit miss = let same : test x ≡ test b = ap test (eqb-true x b e) in cc

  not_here : (s : List ℕ) (b : ℕ) (bs : List ℕ) → begins_by test s ≡ true → test b ≡ false
      → stands_in (b ∷ bs) s ≡ false
  not_here [] b bs hit miss = cc
  not_here (x ∷ xs) b bs hit miss = differ x b (nat_eq x b) _ refl hit miss

  none_here : (ss : List (List ℕ)) (b : ℕ) (bs : List ℕ) → list_all (begins_by test) ss ≡ true → test b ≡ false
      → find (stands_in (b ∷ bs)) ss ≡ None
  none_here [] b bs all miss = refl
  none_here (s ∷ ss) b bs all miss =
      let parts = and_parts _ _ all in
      ap (λ t. if t then Some s else find (stands_in (b ∷ bs)) ss) (not_here s b bs parts.0 miss)
      ∙ none_here ss b bs parts.1 miss

  module _ (newlines : List (List ℕ)) (all : list_all (begins_by test) newlines ≡ true) where
    pub text_skips : (k : ℕ) (bytes : List ℕ) → k ≤ length bytes → IsNoneBefore test bytes k
        → text_size newlines bytes ≡ k + text_size newlines (drop k bytes)
    text_skips zero bytes h none = omega arith
    text_skips (suc k) [] h none = absurd (omega (arith, h))
    text_skips (suc k) (b ∷ bs) h none =
        let here : end_size newlines (b ∷ bs) ≡ 0 = ap size_of (none_here newlines b bs all (none 0 (omega arith))) in
        let on : text_size newlines bs ≡ k + text_size newlines (drop k bs) =
        text_skips k bs (omega (arith, h)) (λ j less. none (suc j) (omega (arith, less)))
        in
        ap (λ n. one_more n (text_size newlines bs)) here ∙ omega (arith, on)

  -- what a search for such a byte says
  pub none_at_all : (bytes : List ℕ) → IsFirstByte test bytes None → IsNoneBefore test bytes (length bytes)
  none_at_all bytes h = λ j less. false_from_ne_true (test (slice_index bytes j)) (h j (omega arith) less)

  pub none_before : (bytes : List ℕ) (k : ℕ) → IsFirstByte test bytes (Some k) → IsNoneBefore test bytes k
  none_before bytes k h = λ j less. false_from_ne_true (test (slice_index bytes j)) (h.0.before j (omega arith) less)
