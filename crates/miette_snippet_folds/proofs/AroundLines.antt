-- The labels that may touch some lines, among all.
use Rattle.std.proofs.Common.{ℕ, zero, suc, ◌+◌, ◌-◌, ◌<◌, ◌≤◌, ◌≡◌, max, min, Bool, false, ◌&&◌, ◌||◌, List, []}
use Rattle.std.proofs.Common.{◌∷◌, ◌++◌, length, map, take, drop, get_or, refl, sym, ap, subst, ◌∙◌, ltb, arith, All}
use Rattle.std.specs.List.{list_any}
use Rattle.std.proofs.Common.{⊎_elim}
use Rattle.std.proofs.lemmas.Bool.{cases_lt, le-ltb}
use Rattle.std.proofs.lemmas.List.{get_or-append-add, get_or-drop, get_or_append_left, get_or_default}
use Rattle.std.proofs.lemmas.List.{length-append, length-drop}
use Rattle.std.proofs.lemmas.List.Elements.{All-drop, All-take}
use Rattle.std.proofs.Math.Bool.{and-false}
use Rattle.miette_lines.specs.rules.Lines.{Line}
use Rattle.miette_protocol.specs.rules.Reading.{Contents}
use Rattle.miette_snippet_rules.specs.rules.FoldedLabels.{LabelExtent, is_around}
use Rattle.miette_snippet_folds.specs.declared.folds.LabelExtent.{LabelExtent as MadeExtent}
use Rattle.miette_snippet_folds.specs.views.ExtentIndex.{IsNumbered, extent_view}
use Rattle.miette_snippet_folds.specs.views.ExtentIndexes.{AreAround, AreBounds, IsWindow}

-- ---- some of a list

any-mapped : (p : LabelExtent → Bool) (xs : List MadeExtent) → list_any p (map extent_view xs)
    ≡ list_any (λ x. p (extent_view x)) xs
any-mapped p [] = refl
any-mapped p (x ∷ xs) = ap (λ b. p (extent_view x) || b) (any-mapped p xs)

pub any-dropped : {A : Type 0} (p : A → Bool) (xs : List A) (n : ℕ)
    → ((k : ℕ) (d : A) → k < n → k < length xs → p (get_or xs k d) ≡ false) → list_any p (drop n xs)
    ≡ list_any p xs
any-dropped p xs zero h = refl
any-dropped p [] (suc n) h = refl
any-dropped p (x ∷ xs) (suc n) h =
    any-dropped p xs n (λ k d lt inside. h (suc k) d (omega (arith, lt)) (omega (arith, inside)))
    ∙ ap (λ b. b || list_any p xs) (sym (h 0 x (omega arith) (omega arith)))

pub any-taken : {A : Type 0} (p : A → Bool) (xs : List A) (n : ℕ)
    → ((k : ℕ) (d : A) → n ≤ k → k < length xs → p (get_or xs k d) ≡ false) → list_any p (take n xs)
    ≡ list_any p xs
any-taken p [] zero h = refl
any-taken p [] (suc n) h = refl
any-taken p (x ∷ xs) zero h =
    any-taken p xs zero (λ k d le inside. h (suc k) d (omega arith) (omega (arith, inside)))
    ∙ ap (λ b. b || list_any p xs) (sym (h 0 x (omega arith) (omega arith)))
any-taken p (x ∷ xs) (suc n) h =
    ap (λ b. p x || b) (any-taken p xs n (λ k d le inside. h (suc k) d (omega (arith, le)) (omega (arith, inside))))

-- ---- the labels that are looked at

off_until : (line : Line) (s : MadeExtent) (start : ℕ) (test : Bool) → start ≤ line.start → s.until ≤ start
    → (is_around line (extent_view s) && test) ≡ false
off_until line s start test low le =
    let off : ltb line.start s.until ≡ false = le-ltb line.start s.until (omega (arith, low, le)) in
    ap (λ b. (b && ltb s.from line.end) && test) off

off_from : (line : Line) (s : MadeExtent) (end : ℕ) (test : Bool) → line.end ≤ end → end ≤ s.from
    → (is_around line (extent_view s) && test) ≡ false
off_from line s end test high le =
    let off : ltb s.from line.end ≡ false = le-ltb s.from line.end (omega (arith, high, le)) in
    ap (λ b. (ltb line.start s.until && b) && test) off
    ∙ ap (λ b. b && test) (and-false (ltb line.start s.until))

-- so those in between say of lines what all do
pub around_part : (start end : ℕ) (all some : List MadeExtent) (first after : ℕ)
    → IsWindow start end all first after → some ≡ take (after - first) (drop first all)
    → AreAround start end all some
around_part start end all some first after w is = λ line low high test.
    let p : MadeExtent → Bool = λ s. is_around line (extent_view s) && test (extent_view s) in
    let rest : List MadeExtent = drop first all in
    any-mapped (λ s. is_around line s && test s) some ∙ ap (list_any p) is
    ∙ any-taken p rest (after - first) (λ k d ge inside.
    let later : first + k < length all = omega (arith, inside, length-drop first all) in
    let same : get_or rest k d ≡ get_or all (first + k) d = get_or-drop first all k d in
    ap p same ∙ off_from line (get_or all (first + k) d) end (test (extent_view (get_or all (first + k) d))) high
    (w.from (first + k) d (omega (arith, ge)) later))
    ∙ any-dropped p all first (λ k d lt inside. off_until line (get_or all k d) start
    (test (extent_view (get_or all k d))) low (w.until k d lt))
    ∙ sym (any-mapped (λ s. is_around line s && test s) all)

-- where the first and the last ones are off by the bounds
pub window_is : (start end : ℕ) (all : List MadeExtent) (untils froms : List ℕ) (first later after : ℕ)
    → AreBounds all untils froms → first ≤ length untils → (0 < first → get_or untils (first - 1) 0 < min start end) →
    later ≤ length froms → (0 < later → end ≤ get_or froms (later - 1) 0) → after ≡ max (length untils - later) first →
    IsWindow start end all first after
window_is start end all untils froms first later after bounds few low many high b = record {
  order = omega (arith, b);
  within = omega (arith, b, few, bounds.untils);
  until = λ k d lt. omega (arith, reach k d lt, low (omega (arith, lt)));
  begun = λ k d lt. omega (arith, reach k d lt, low (omega (arith, lt)));
  from = λ k d ge inside.
      let some : 0 < later = omega (arith, b, ge, inside, bounds.untils) in
      let last : later - 1 < length all = omega (arith, many, some, bounds.froms) in
      let le : get_or froms (later - 1) 0 ≤ (get_or all k d).from = bounds.from k (later - 1) d last
      (omega (arith, b, ge, some, bounds.untils)) inside in
      omega (arith, le, high some);
}
  where
    reach : (k : ℕ) (d : MadeExtent) → k < first → max (get_or all k d).until (get_or all k d).from
        ≤ get_or untils (first - 1) 0
    reach k d lt = bounds.until k (first - 1) d (omega (arith, lt)) (omega (arith, few, lt, bounds.untils))

pub some_numbered : (contents : Contents) (all some : List MadeExtent) (first many : ℕ)
    → some ≡ take many (drop first all) → All (IsNumbered contents) all → All (IsNumbered contents) some
some_numbered contents all some first many is h =
    subst (λ (xs : List MadeExtent). All (IsNumbered contents) xs) (sym is)
    (All-take (IsNumbered contents) many (drop first all) (All-drop (IsNumbered contents) first all h))

-- ---- the bounds, label by label

-- the first `count` labels go no further than their entries say, nor than the greatest of these
pub record AreUntils (labels : List MadeExtent) (made : List ℕ) (count greatest : ℕ) : Type 0 where
  pub many : length made ≡ count
  pub until : (j k : ℕ) (d : MadeExtent) → j ≤ k → k < count → max (get_or labels j d).until (get_or labels j d).from
      ≤ get_or made k 0
  pub most : (j : ℕ) (d : MadeExtent) → j < count → max (get_or labels j d).until (get_or labels j d).from ≤ greatest

pub untils_none : (labels : List MadeExtent) (made : List ℕ) → made ≡ [] → AreUntils labels made 0 0
untils_none labels made e = record {
  many = ap length e;
  until = λ j k d le lt. absurd (omega (arith, lt));
  most = λ j d lt. absurd (omega (arith, lt));
}

pub untils_more : (labels : List MadeExtent) (made new : List ℕ) (many most next : ℕ) (own : MadeExtent)
    → many < length labels → new ≡ made ++ next ∷ [] → next
    ≡ max (max (get_or labels many own).until (get_or labels many own).from) most →
    AreUntils labels made many most → AreUntils labels new (many + 1) next
untils_more labels made new many most next own some e n h = record {
  many = omega (arith, ap length e, length-append made (next ∷ []), h.many);
  until = λ j k d le lt.
      ⊎_elim {C = max (get_or labels j d).until (get_or labels j d).from ≤ get_or new k 0}
      (λ less.
      let same : get_or new k 0 ≡ get_or made k 0 = ap (λ xs. get_or xs k 0) e
      ∙ get_or_append_left made (next ∷ []) 0 k (omega (arith, h.many, less)) in
      omega (arith, same, h.until j k d le less))
      (λ ge.
      let last : k ≡ length made + 0 = omega (arith, ge, lt, h.many) in
      let same : get_or new k 0 ≡ next = ap (λ xs. get_or xs k 0) e ∙ ap (λ i. get_or (made ++ next ∷ []) i 0) last
      ∙ get_or-append-add made (next ∷ []) 0 0 in
      omega (arith, same, newest j d (omega (arith, le, lt))))
      (cases_lt k many);
  most = newest;
}
  where
    newest : (j : ℕ) (d : MadeExtent) → j < many + 1 → max (get_or labels j d).until (get_or labels j d).from ≤ next
    newest j d lt =
        ⊎_elim {C = max (get_or labels j d).until (get_or labels j d).from ≤ next}
        (λ less. omega (arith, n, h.most j d less))
        (λ ge.
        let same : j ≡ many = omega (arith, ge, lt) in
        let is : get_or labels j d ≡ get_or labels many own = ap (λ i. get_or labels i d) same
        ∙ get_or_default labels many d own some in
        omega (arith, n, ap (λ (x : MadeExtent). x.until) is, ap (λ (x : MadeExtent). x.from) is))
        (cases_lt j many)

-- the same from the last one on
pub record AreFroms (labels : List MadeExtent) (made : List ℕ) (count smallest : ℕ) : Type 0 where
  pub many : length made ≡ count
  pub from : (j k : ℕ) (d : MadeExtent) → k < count → length labels - (k + 1) ≤ j → j < length labels →
      get_or made k 0 ≤ (get_or labels j d).from
  pub least : (j : ℕ) (d : MadeExtent) → length labels - count ≤ j → j < length labels → smallest
      ≤ (get_or labels j d).from

pub froms_none : (labels : List MadeExtent) (made : List ℕ) (least : ℕ) → made ≡ [] → AreFroms labels made 0 least
froms_none labels made least e = record {
  many = ap length e;
  from = λ j k d lt ge inside. absurd (omega (arith, lt));
  least = λ j d ge inside. absurd (omega (arith, ge, inside));
}

pub froms_more : (labels : List MadeExtent) (made new : List ℕ) (many least next : ℕ) (own : MadeExtent)
    → many < length labels → new ≡ made ++ next ∷ [] →
    next ≡ min (get_or labels (length labels - 1 - many) own).from least →
    AreFroms labels made many least → AreFroms labels new (many + 1) next
froms_more labels made new many least next own some e n h = record {
  many = omega (arith, ap length e, length-append made (next ∷ []), h.many);
  from = λ j k d lt ge inside.
      ⊎_elim {C = get_or new k 0 ≤ (get_or labels j d).from}
      (λ less.
      let same : get_or new k 0 ≡ get_or made k 0 = ap (λ xs. get_or xs k 0) e
      ∙ get_or_append_left made (next ∷ []) 0 k (omega (arith, h.many, less)) in
      omega (arith, same, h.from j k d less ge inside))
      (λ more.
      let last : k ≡ length made + 0 = omega (arith, more, lt, h.many) in
      let same : get_or new k 0 ≡ next = ap (λ xs. get_or xs k 0) e ∙ ap (λ i. get_or (made ++ next ∷ []) i 0) last
      ∙ get_or-append-add made (next ∷ []) 0 0 in
      omega (arith, same, newest j d (omega (arith, ge, lt, more)) inside))
      (cases_lt k many);
  least = newest;
}
  where
    newest : (j : ℕ) (d : MadeExtent) → length labels - (many + 1) ≤ j → j < length labels → next
        ≤ (get_or labels j d).from
    newest j d ge inside =
        ⊎_elim {C = next ≤ (get_or labels j d).from}
        (λ less.
        let same : j ≡ length labels - 1 - many = omega (arith, ge, less, some) in
        let at : length labels - 1 - many < length labels = omega (arith, some) in
        let is : (get_or labels j d).from ≡ (get_or labels (length labels - 1 - many) own).from =
        ap (λ i. (get_or labels i d).from) same ∙ ap (λ (x : MadeExtent). x.from)
        (get_or_default labels (length labels - 1 - many) d own at) in
        omega (arith, n, is))
        (λ more. omega (arith, n, h.least j d more inside))
        (cases_lt j (length labels - many))
