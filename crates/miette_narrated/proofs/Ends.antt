-- Labels by where they end: those that end on a line are found by halving, and come by offset again by their ranks.
use Rattle.std.proofs.Common.{ℕ, zero, suc, ◌+◌, ◌-◌, ◌<◌, ◌≤◌, ◌≡◌, Bool, true, false, cond, leb, ltb, eqb, ◌&&◌, List}
use Rattle.std.proofs.Common.{[], ◌∷◌, length, map, take, drop, get_or, min, refl, sym, ap, ◌∙◌, arith}
use Rattle.std.specs.List.{filter}
use Rattle.std.specs.List.Sorted.{IsNonDecreasingBy, IsStableByKey, IsPartitionPoint}
use Rattle.std.specs.Ordering.{nat_cmp}
use Rattle.std.proofs.lemmas.Bool.{leb-true, le-leb, ne_eqb, eqb-true, and_right}
use Rattle.std.proofs.lemmas.Bool.Decides.{nat_tests}
use Rattle.std.proofs.lemmas.List.Elements.{filter_agree}
use Rattle.std.proofs.Math.Bool.{and_comm}
use Rattle.miette_lines.specs.rules.Lines.{Line}
use Rattle.miette_labels.specs.declared.placed.PlacedLabel.{PlacedLabel}
use Rattle.miette_labels.proofs.SortedLabels.{put, sorted, Rises, at_key, same_list, sorted_rises, sorted_at}
use Rattle.miette_labels.proofs.SortedLabels.{rises_from}
use Rattle.miette_labels.proofs.SortedLabels.{sort_is}
use Rattle.miette_lines.proofs.Cases.{by_cases}
use Rattle.miette_narrated.specs.declared.label_order.RankedLabel.{RankedLabel}
use Rattle.miette_narrated.specs.steps.Ends.{ends_within, is_ended, ranked_labels, AreEnds}
use Rattle.miette_narrated.specs.steps.LabelSweep.{BeginsFrom, AreOrdered}

-- ---- elements of a list between two of its places

-- those that pass stand together
pub range_is : {X : Type 0} (p : X → Bool) (xs : List X) (i m : ℕ) → i + m ≤ length xs
    → ((k : ℕ) (d : X) → k < i → p (get_or xs k d) ≡ false) →
    ((k : ℕ) (d : X) → i ≤ k → k < i + m → p (get_or xs k d) ≡ true)
    → ((k : ℕ) (d : X) → i + m ≤ k → k < length xs → p (get_or xs k d) ≡ false) → take m (drop i xs) ≡ filter p xs
range_is p [] zero zero within low mid high = refl
range_is p [] zero (suc m) within low mid high = absurd (omega arith)
range_is p [] (suc i) m within low mid high = absurd (omega arith)
range_is p (x ∷ xs) zero zero within low mid high =
    rw (high 0 x (omega arith) (omega arith))
    (range_is p xs zero zero (omega arith) (λ k d lt. absurd (omega arith)) (λ k d ge lt. absurd (omega arith))
    (λ k d ge lt. high (suc k) d (omega arith) (omega arith)))
range_is p (x ∷ xs) zero (suc m) within low mid high =
    rw (mid 0 x (omega arith) (omega arith))
    (ap (λ r. x ∷ r) (range_is p xs zero m (omega arith) (λ k d lt. absurd (omega arith))
    (λ k d ge lt. mid (suc k) d (omega arith) (omega arith))
    (λ k d ge lt. high (suc k) d (omega arith) (omega arith))))
range_is p (x ∷ xs) (suc i) m within low mid high =
    rw (low 0 x (omega arith))
    (range_is p xs i m (omega arith) (λ k d lt. low (suc k) d (omega arith))
    (λ k d ge lt. mid (suc k) d (omega arith) (omega arith))
    (λ k d ge lt. high (suc k) d (omega arith) (omega arith)))

-- ---- tests one after the other

pub filter_both : {X : Type 0} (p q : X → Bool) (xs : List X) → filter p (filter q xs) ≡ filter (λ x. p x && q x) xs
filter_both p q [] = refl
filter_both p q (x ∷ xs) =
    by_cases {C = filter p (filter q (x ∷ xs)) ≡ filter (λ y. p y && q y) (x ∷ xs)} (q x)
    (λ t. by_cases {C = filter p (filter q (x ∷ xs)) ≡ filter (λ y. p y && q y) (x ∷ xs)} (p x)
    (λ u. rw (t, u) (ap (λ r. x ∷ r) (filter_both p q xs))) (λ v. rw (t, v) (filter_both p q xs)))
    (λ f. by_cases {C = filter p (filter q (x ∷ xs)) ≡ filter (λ y. p y && q y) (x ∷ xs)} (p x)
    (λ u. rw (f, u) (filter_both p q xs)) (λ v. rw (f, v) (filter_both p q xs)))

filter_turn : {X : Type 0} (p q : X → Bool) (xs : List X) → filter p (filter q xs) ≡ filter q (filter p xs)
filter_turn p q xs = filter_both p q xs ∙ filter_agree (λ x. p x && q x) (λ x. q x && p x) (λ x. and_comm (p x) (q x))
    xs ∙ sym (filter_both q p xs)

-- ---- a test and a sort

rises_lower : {X : Type 0} (n : X → ℕ) (a b : ℕ) (xs : List X) → a ≤ b → Rises n b xs → Rises n a xs
rises_lower n a b [] le h = tt
rises_lower n a b (x ∷ xs) le h = (omega (arith, h.0), h.1)

rises_kept : {X : Type 0} (n : X → ℕ) (q : X → Bool) (a : ℕ) (xs : List X) → Rises n a xs → Rises n a (filter q xs)
rises_kept n q a [] h = tt
rises_kept n q a (x ∷ xs) h =
    by_cases {C = Rises n a (filter q (x ∷ xs))} (q x) (λ t. rw t (h.0, rises_kept n q (n x) xs h.1))
    (λ f. rw f (rises_kept n q a xs (rises_lower n a (n x) xs h.0 h.1)))

put_first : {X : Type 0} (n : X → ℕ) (x : X) (xs : List X) → Rises n (n x) xs → put n x xs ≡ x ∷ xs
put_first n x [] h = refl
put_first n x (y ∷ ys) h = rw (le-leb (n x) (n y) h.0) refl

put_left : {X : Type 0} (n : X → ℕ) (q : X → Bool) (x : X) (ys : List X) → q x ≡ false → filter q (put n x ys)
    ≡ filter q ys
put_left n q x [] out = rw out refl
put_left n q x (y ∷ ys) out =
    by_cases {C = filter q (put n x (y ∷ ys)) ≡ filter q (y ∷ ys)} (leb (n x) (n y)) (λ t. rw (t, out) refl)
    (λ f. rw f (ap (λ r. cond (q y) (y ∷ r) r) (put_left n q x ys out)))

put_kept : {X : Type 0} (n : X → ℕ) (q : X → Bool) (a : ℕ) (x : X) (ys : List X) → Rises n a ys → q x ≡ true
    → filter q (put n x ys) ≡ put n x (filter q ys)
put_kept n q a x [] h k = rw k refl
put_kept n q a x (y ∷ ys) h k =
    by_cases {C = filter q (put n x (y ∷ ys)) ≡ put n x (filter q (y ∷ ys))} (leb (n x) (n y))
    (λ t. let le : n x ≤ n y = leb-true (n x) (n y) t in rw t rw k
    (sym (put_first n x (filter q (y ∷ ys)) (rises_kept n q (n x) (y ∷ ys) (le, h.1)))))
    (λ f. by_cases {C = filter q (put n x (y ∷ ys)) ≡ put n x (filter q (y ∷ ys))} (q y)
    (λ t. rw (f, t) rw f (ap (λ r. y ∷ r) (put_kept n q (n y) x ys h.1 k)))
    (λ g. rw (f, g) (put_kept n q (n y) x ys h.1 k)))

sorted_kept : {X : Type 0} (n : X → ℕ) (q : X → Bool) (xs : List X) → filter q (sorted n xs) ≡ sorted n (filter q xs)
sorted_kept n q [] = refl
sorted_kept n q (x ∷ xs) =
    by_cases {C = filter q (sorted n (x ∷ xs)) ≡ sorted n (filter q (x ∷ xs))} (q x)
    (λ t. put_kept n q 0 x (sorted n xs) (sorted_rises n xs) t ∙ ap (put n x) (sorted_kept n q xs)
    ∙ sym (ap (λ b. sorted n (cond b (x ∷ filter q xs) (filter q xs))) t))
    (λ f. put_left n q x (sorted n xs) f ∙ sorted_kept n q xs
    ∙ sym (ap (λ b. sorted n (cond b (x ∷ filter q xs) (filter q xs))) f))

-- ---- ranks

abbrev rank_of : RankedLabel → ℕ
rank_of end = end.rank

rank_below : (v m : ℕ) (ps : List PlacedLabel) → v < m → at_key rank_of v (ranked_labels m ps) ≡ []
rank_below v m [] lt = refl
rank_below v m (p ∷ ps) lt = rw (ne_eqb m v (λ e. omega (arith, e))) (rank_below v (m + 1) ps (omega arith))

one_rank : (n : RankedLabel → ℕ) (v m : ℕ) (ps : List PlacedLabel) → sorted n (at_key rank_of v (ranked_labels m ps))
    ≡ at_key rank_of v (ranked_labels m ps)
one_rank n v m [] = refl
one_rank n v m (p ∷ ps) =
    by_cases {C = sorted n (at_key rank_of v (ranked_labels m (p ∷ ps))) ≡ at_key rank_of v (ranked_labels m (p ∷ ps))}
    (eqb m v)
    (λ t. let none = rank_below v (m + 1) ps (omega (arith, eqb-true m v t)) in
    rw t (ap (λ r. put n (record { rank = m; label = p }) (sorted n r)) none
    ∙ sym (ap (λ r. record { rank = m; label = p } ∷ r) none)))
    (λ f. rw f (one_rank n v (m + 1) ps))

pub are_ends : (ps : List PlacedLabel) (made ends : List RankedLabel) → made ≡ ranked_labels 0 ps
    → IsNonDecreasingBy (λ (end : RankedLabel). end.label.after) ends
    → IsStableByKey (λ (end : RankedLabel). end.label.after) nat_cmp made ends → AreEnds ps ends
are_ends ps made ends e up stable =
    let n : RankedLabel → ℕ = λ end. end.label.after in
    let is : ends ≡ sorted n (ranked_labels 0 ps) = sort_is n made ends up stable ∙ ap (sorted n) e in
    record {
      rising = up;
      same = λ v. ap (at_key rank_of v) is ∙ sorted_kept n (λ end. eqb end.rank v) (ranked_labels 0 ps)
          ∙ one_rank n v 0 ps;
    }

ranks_rise : (q : RankedLabel → Bool) (m : ℕ) (ps : List PlacedLabel) → Rises rank_of m (filter q (ranked_labels m ps))
ranks_rise q m [] = tt
ranks_rise q m (p ∷ ps) =
    let end : RankedLabel = record { rank = m; label = p } in
    let later = ranks_rise q (m + 1) ps in
    by_cases {C = Rises rank_of m (filter q (ranked_labels m (p ∷ ps)))} (q end)
    (λ t. rw t (omega arith, rises_lower rank_of m (m + 1) (filter q (ranked_labels (m + 1) ps)) (omega arith) later))
    (λ f. rw f (rises_lower rank_of m (m + 1) (filter q (ranked_labels (m + 1) ps)) (omega arith) later))

kept_labels : (q : PlacedLabel → Bool) (m : ℕ) (ps : List PlacedLabel)
    → map (λ (end : RankedLabel). end.label) (filter (λ (end : RankedLabel). q end.label) (ranked_labels m ps))
    ≡ filter q ps
kept_labels q m [] = refl
kept_labels q m (p ∷ ps) =
    by_cases {C = map (λ (end : RankedLabel). end.label) (filter (λ (end : RankedLabel). q end.label)
    (ranked_labels m (p ∷ ps))) ≡ filter q (p ∷ ps)} (q p)
    (λ t. rw t (ap (λ r. p ∷ r) (kept_labels q (m + 1) ps))) (λ f. rw f (kept_labels q (m + 1) ps))

-- labels that pass, by rank, are those that pass by offset
ranks_again : (q : PlacedLabel → Bool) (ps : List PlacedLabel) (ends kept ended : List RankedLabel) → AreEnds ps ends
    → kept ≡ filter (λ (end : RankedLabel). q end.label) ends →
    IsNonDecreasingBy rank_of ended → IsStableByKey rank_of nat_cmp kept ended
    → map (λ (end : RankedLabel). end.label) ended ≡ filter q ps
ranks_again q ps ends kept ended are e up stable =
    let p : RankedLabel → Bool = λ end. q end.label in
    let is : ended ≡ sorted rank_of kept = sort_is rank_of kept ended up stable in
    let at : (z : RankedLabel) → at_key rank_of z.rank ended ≡ at_key rank_of z.rank (filter p (ranked_labels 0 ps)) =
    λ z.
    ap (at_key rank_of z.rank) is ∙ sorted_at rank_of z.rank kept ∙ ap (at_key rank_of z.rank) e
    ∙ filter_turn (λ (x : RankedLabel). eqb x.rank z.rank) p ends ∙ ap (filter p) (are.same z.rank)
    ∙ filter_turn p (λ (x : RankedLabel). eqb x.rank z.rank) (ranked_labels 0 ps) in
    ap (map (λ (end : RankedLabel). end.label)) (same_list rank_of 0 0 ended (filter p (ranked_labels 0 ps))
    (rises_from rank_of 0 ended up (λ d lt. omega arith)) (ranks_rise p 0 ps) at)
    ∙ kept_labels q 0 ps

pub ended_again : (line : Line) (ps : List PlacedLabel) (ends near kept ended : List RankedLabel) → AreEnds ps ends
    → near ≡ filter (λ (end : RankedLabel). ends_within line end.label) ends →
    kept ≡ filter (λ (end : RankedLabel). ltb end.label.start line.start) near → IsNonDecreasingBy rank_of ended
    → IsStableByKey rank_of nat_cmp kept ended →
    map (λ (end : RankedLabel). end.label) ended ≡ filter (is_ended line) ps
ended_again line ps ends near kept ended are e k up stable =
    ranks_again (is_ended line) ps ends kept ended are
    (k ∙ ap (filter (λ (end : RankedLabel). ltb end.label.start line.start)) e
    ∙ filter_both (λ (end : RankedLabel). ltb end.label.start line.start)
    (λ (end : RankedLabel). ends_within line end.label) ends) up stable

-- ---- labels by offset rise

from_first : (ps : List PlacedLabel) (a : ℕ) → BeginsFrom a ps → AreOrdered ps → (j : ℕ) (d : PlacedLabel) → j
    < length ps → a ≤ (get_or ps j d).start
from_first [] a h o j d lt = absurd (omega arith)
from_first (p ∷ ps) a h o zero d lt = h
from_first (p ∷ ps) a h o (suc j) d lt = let later = from_first ps p.start o.1 o.2 j d (omega arith) in
    omega (arith, h, later)

pub starts_rise : (ps : List PlacedLabel) → AreOrdered ps → IsNonDecreasingBy (λ (p : PlacedLabel). p.start) ps
starts_rise [] o i j d le lt = absurd (omega arith)
starts_rise (p ∷ ps) o zero zero d le lt = omega arith
starts_rise (p ∷ ps) o zero (suc j) d le lt = from_first ps p.start o.1 o.2 j d (omega arith)
starts_rise (p ∷ ps) o (suc i) zero d le lt = absurd (omega arith)
starts_rise (p ∷ ps) o (suc i) (suc j) d le lt = starts_rise ps o.2 i j d (omega arith) (omega arith)

-- ---- a number between two bounds

before_both : (a b k : ℕ) → ltb k a ≡ true → (leb a k && leb k b) ≡ false
before_both a b k h = let f : leb a k ≡ false = grind (arith, nat_tests) in rw f refl

withkeptboth : (a b k : ℕ) → ltb k a ≡ false → leb k b ≡ true → (leb a k && leb k b) ≡ true
withkeptboth a b k h g = let f : leb a k ≡ true = grind (arith, nat_tests) in rw (f, g) refl

after_both : (a b k : ℕ) → leb k b ≡ false → (leb a k && leb k b) ≡ false
after_both a b k g = rw g (and_right (leb a k) false refl)

-- the elements between two bounds, found by halving
pub between : {X : Type 0} (n : X → ℕ) (a b : ℕ) (xs : List X) (first after low : ℕ) → low ≡ min first after → after
    ≤ length xs →
    IsPartitionPoint (λ x. ltb (n x) a ≡ true) (λ x. ltb (n x) a ≡ false) xs first
    → IsPartitionPoint (λ x. leb (n x) b ≡ true) (λ x. leb (n x) b ≡ false) xs after →
    take (after - low) (drop low xs) ≡ filter (λ x. leb a (n x) && leb (n x) b) xs
between n a b xs first after low e within from to =
    range_is (λ x. leb a (n x) && leb (n x) b) xs low (after - low) (omega (arith, e))
    (λ k d lt. before_both a b (n (get_or xs k d)) (from.0 k d (omega arith) (omega (arith, e))))
    (λ k d ge lt. withkeptboth a b (n (get_or xs k d)) (from.1 k d (omega (arith, e)) (omega (arith, e)))
    (to.0 k d (omega arith) (omega (arith, e))))
    (λ k d ge lt. after_both a b (n (get_or xs k d)) (to.1 k d (omega (arith, e)) lt))
