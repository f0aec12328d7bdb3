-- One sweep finds the labels that lie on a line.
use Rattle.std.proofs.Common.{ℕ, zero, suc, ◌<◌, ◌≤◌, ◌≡◌, Bool, true, false, cond, ltb, leb, eqb, List, [], ◌∷◌}
use Rattle.std.proofs.Common.{length, take, get_or, refl, sym, ap, ◌∙◌, ⊎_elim, ◌&&◌, arith}
use Rattle.std.proofs.lemmas.Bool.{lt-ltb, le-ltb, le-leb, lt-leb, ltb-true, ltb-false, cases_lt, eqb-false}
use Rattle.std.proofs.Math.Seq.{take-nil}
use Rattle.std.specs.List.{filter}
use Rattle.miette_labels.specs.declared.placed.PlacedLabel.{PlacedLabel}
use Rattle.miette_labels.specs.rules.Labels.{reach}
use Rattle.miette_labels.specs.views.ProgramLabels.{drawn_of}
use Rattle.miette_labels.specs.views.Sweeping.{passes, is_one, is_multi, start_at}
use Rattle.miette_labels.specs.views.ProgramLabels.{no_label}
use Rattle.miette_labels.specs.views.Sweeping.{AreSorted, IsAt, IsOn}
use Rattle.miette_lines.proofs.Cases.{by_cases}
use Rattle.miette_lines.specs.rules.Lines.{Line}

-- on the way through a line
pub record IsSwept (labels : List PlacedLabel) (line : Line) (next : ℕ) (one multi : List PlacedLabel)
    : Type 0 where
  pub count : next ≤ length labels
  pub before : (k : ℕ) → k < next → start_at labels k < line.end
  pub later : (k : ℕ) → next ≤ k → k < length labels → line.start ≤ start_at labels k
  pub one_is : one ≡ filter (is_one line) (take next labels)
  pub multi_is : multi ≡ filter (is_multi line) (take next labels)

reach-gt : (p : PlacedLabel) → p.start ≤ p.after → p.start < reach (drawn_of p)
reach-gt p le = by_cases {C = p.start < reach (drawn_of p)} (eqb p.start p.after) (λ t. rw t (omega arith))
    (λ f. rw f (⊎_elim {C = p.start < p.after} (λ lt. lt)
    (λ ge. absurd (eqb-false p.start p.after f (omega (arith, le, ge)))) (cases_lt p.start p.after)))

-- what holds of a label by where it starts

pub inside_past : (line : Line) (p : PlacedLabel) → p.start ≤ p.after → line.start ≤ p.start → p.start
    < line.end
    → passes line.end p ≡ true → (is_one line p ≡ false) × (is_multi line p ≡ true)
inside_past line p ok ge lt past =
    let r : ℕ = reach (drawn_of p) in
    let gt : p.start < r = reach-gt p ok in
    let over : line.end < r = ltb-true line.end r past in
    let a : leb line.start p.start ≡ true = le-leb line.start p.start ge in
    let b : ltb p.start line.end ≡ true = lt-ltb p.start line.end lt in
    let c : ltb line.start r ≡ true = lt-ltb line.start r (omega (arith, gt, ge)) in
    let d : leb r line.end ≡ false = lt-leb r line.end over in
    (rw (a, b, c, d) refl, rw (a, b, c, d) refl)

inside_ends : (line : Line) (p : PlacedLabel) → p.start ≤ p.after → line.start ≤ p.start → p.start < line.end
    → passes line.end p ≡ false → (is_one line p ≡ true) × (is_multi line p ≡ false)
inside_ends line p ok ge lt past =
    let r : ℕ = reach (drawn_of p) in
    let gt : p.start < r = reach-gt p ok in
    let under : r ≤ line.end = ltb-false line.end r past in
    let a : leb line.start p.start ≡ true = le-leb line.start p.start ge in
    let b : ltb p.start line.end ≡ true = lt-ltb p.start line.end lt in
    let c : ltb line.start r ≡ true = lt-ltb line.start r (omega (arith, gt, ge)) in
    let d : leb r line.end ≡ true = le-leb r line.end under in
    (rw (a, b, c, d) refl, rw (a, b, c, d) refl)

earlier_one : (line : Line) (p : PlacedLabel) → p.start < line.start → is_one line p ≡ false
earlier_one line p lt = let a : leb line.start p.start ≡ false = lt-leb line.start p.start lt in rw a refl

pub earlier_multi : (line : Line) (p : PlacedLabel) → line.start < line.end → p.start < line.start
    → is_multi line p ≡ passes line.start p
earlier_multi line p some lt =
    let r : ℕ = reach (drawn_of p) in
    let a : leb line.start p.start ≡ false = lt-leb line.start p.start lt in
    let f : ltb p.start line.start ≡ true = lt-ltb p.start line.start lt in
    by_cases {C = is_multi line p ≡ passes line.start p} (ltb line.start r)
    (λ c. by_cases {C = is_multi line p ≡ passes line.start p} (ltb line.end r)
    (λ g. let d : leb r line.end ≡ false = lt-leb r line.end (ltb-true line.end r g) in rw (a, f, c, g, d) refl)
    (λ g. let d : leb r line.end ≡ true = le-leb r line.end (ltb-false line.end r g) in rw (a, f, c, g, d) refl))
    (λ c. let g : ltb line.end r ≡ false = le-ltb line.end r (omega (arith, some, ltb-false line.start r c)) in
    rw (a, f, c, g) refl)

earlier_past : (line : Line) (p : PlacedLabel) → line.start < line.end
    → (passes line.start p && passes line.end p) ≡ passes line.end p
earlier_past line p some =
    let r : ℕ = reach (drawn_of p) in
    by_cases {C = (passes line.start p && passes line.end p) ≡ passes line.end p} (ltb line.start r)
    (λ c. rw c refl)
    (λ c. let g : ltb line.end r ≡ false = le-ltb line.end r (omega (arith, some, ltb-false line.start r c)) in
    rw (c, g) refl)

pub later_none : (line : Line) (p : PlacedLabel) → p.start ≤ p.after → line.start < line.end
    → line.end ≤ p.start
    → (is_one line p ≡ false) × (is_multi line p ≡ false)
later_none line p ok some ge =
    let r : ℕ = reach (drawn_of p) in
    let gt : p.start < r = reach-gt p ok in
    let a : leb line.start p.start ≡ true = le-leb line.start p.start (omega (arith, ge, some)) in
    let b : ltb p.start line.end ≡ false = le-ltb p.start line.end ge in
    let c : ltb line.start r ≡ true = lt-ltb line.start r (omega (arith, gt, ge, some)) in
    let d : leb r line.end ≡ false = lt-leb r line.end (omega (arith, gt, ge)) in
    let f : ltb p.start line.start ≡ false = le-ltb p.start line.start (omega (arith, ge, some)) in
    (rw (a, b) refl, rw (a, b, c, d, f) refl)

-- filters of the front of a list

filter_front : (p q : PlacedLabel → Bool) (n : ℕ) (xs : List PlacedLabel)
    → ((k : ℕ) → k < n → k < length xs → p (get_or xs k no_label) ≡ q (get_or xs k no_label)) → filter p (take n xs)
    ≡ filter q (take n xs)
filter_front p q zero xs h = refl
filter_front p q (suc n) [] h = refl
filter_front p q (suc n) (x ∷ xs) h =
    let rest : filter p (take n xs) ≡ filter q (take n xs) =
    filter_front p q n xs (λ k a b. h (suc k) (omega arith) (omega arith)) in
    let own : p x ≡ q x = h 0 (omega arith) (omega arith) in
    rw own (ap (λ r. cond (q x) (x ∷ r) r) rest)

filter_no : (xs : List PlacedLabel) → filter (λ x. false) xs ≡ []
filter_no [] = refl
filter_no (x ∷ xs) = filter_no xs

filter_both : (p q : PlacedLabel → Bool) (xs : List PlacedLabel) → filter q (filter p xs) ≡ filter (λ x. p x && q x) xs
filter_both p q [] = refl
filter_both p q (x ∷ xs) =
    by_cases {C = filter q (filter p (x ∷ xs)) ≡ filter (λ x. p x && q x) (x ∷ xs)} (p x)
    (λ t. rw t (ap (λ r. cond (q x) (x ∷ r) r) (filter_both p q xs))) (λ f. rw f (filter_both p q xs))

-- none after the front passes
filter_beyond : (p : PlacedLabel → Bool) (n : ℕ) (xs : List PlacedLabel)
    → ((k : ℕ) → n ≤ k → k < length xs → p (get_or xs k no_label) ≡ false) → filter p (take n xs) ≡ filter p xs
filter_beyond p n [] h = ap (filter p) (take-nil n)
filter_beyond p zero (x ∷ xs) h =
    let own : p x ≡ false = h 0 (omega arith) (omega arith) in
    rw own (filter_beyond p zero xs (λ k a b. h (suc k) (omega arith) (omega arith)))
filter_beyond p (suc n) (x ∷ xs) h =
    ap (λ r. cond (p x) (x ∷ r) r) (filter_beyond p n xs (λ k a b. h (suc k) (omega arith) (omega arith)))

-- where a line begins
pub swept_init : (labels : List PlacedLabel) (line : Line) (next : ℕ) (running : List PlacedLabel) → line.start
    < line.end → IsAt labels line.start next running → IsSwept labels line next [] running
swept_init labels line next running some is = record {
  count = is.count;
  before = λ k lt. omega (arith, is.before k lt, some);
  later = is.later;
  one_is = sym (filter_front (is_one line) (λ x. false) next labels
      (λ k a b. earlier_one line (get_or labels k no_label) (is.before k a)) ∙ filter_no (take next labels));
  multi_is = is.carried ∙ sym (filter_front (is_multi line) (passes line.start) next labels
      (λ k a b. earlier_multi line (get_or labels k no_label) some (is.before k a)));
}

pub swept_first : (labels : List PlacedLabel) (line : Line) (next : ℕ) (running one : List PlacedLabel)
    → line.start
    < line.end → IsAt labels line.start next running → one ≡ [] → IsSwept labels line next one running
swept_first labels line next running one some is a = rw a (swept_init labels line next running some is)

-- where no more labels start on the line
abbrev pub IsOver : List PlacedLabel → Line → ℕ → Type 0
IsOver labels line next = next < length labels → line.end ≤ start_at labels next

beyond : (labels : List PlacedLabel) (line : Line) (next : ℕ) → AreSorted labels → IsOver labels line next
    → (k : ℕ)
    → next ≤ k → k < length labels → line.end ≤ start_at labels k
beyond labels line next sorted over k le lt = omega (arith, over (omega arith), sorted.order next k le lt)

pub swept_one : (labels : List PlacedLabel) (line : Line) (next : ℕ) (one multi : List PlacedLabel)
    → AreSorted labels
    → line.start < line.end → IsOver labels line next → IsSwept labels line next one multi →
    one ≡ filter (is_one line) labels
swept_one labels line next one multi sorted some over is =
    is.one_is ∙ filter_beyond (is_one line) next labels
    (λ k a b. (later_none line (get_or labels k no_label) (sorted.drawn k b) some
    (beyond labels line next sorted over k a b)).0)

pub swept_on : (labels : List PlacedLabel) (line : Line) (next : ℕ) (one multi : List PlacedLabel)
    → AreSorted labels
    → line.start < line.end → IsOver labels line next → IsSwept labels line next one multi →
    IsOn labels line next multi
swept_on labels line next one multi sorted some over is = record {
  count = is.count;
  before = is.before;
  later = beyond labels line next sorted over;
  multi = is.multi_is ∙ filter_beyond (is_multi line) next labels
      (λ k a b. (later_none line (get_or labels k no_label) (sorted.drawn k b) some
      (beyond labels line next sorted over k a b)).1);
}

-- of the labels that begin before a line's end those that go on past it are of several lines
on_past : (labels : List PlacedLabel) (line : Line) (k : ℕ) → AreSorted labels → line.start < line.end → k
    < length labels → start_at labels k < line.end →
    (is_multi line (get_or labels k no_label) && passes line.end (get_or labels k no_label))
    ≡ passes line.end (get_or labels k no_label)
on_past labels line k sorted some lt before =
    let p : PlacedLabel = get_or labels k no_label in
    ⊎_elim {C = (is_multi line p && passes line.end p) ≡ passes line.end p}
    (λ less. ap (λ b. b && passes line.end p) (earlier_multi line p some less) ∙ earlier_past line p some)
    (λ ge. by_cases {C = (is_multi line p && passes line.end p) ≡ passes line.end p}
    (passes line.end p)
    (λ t. ap (λ b. b && passes line.end p) (inside_past line p (sorted.drawn k lt) ge before t).1)
    (λ f. ap (λ b. b && passes line.end p) (inside_ends line p (sorted.drawn k lt) ge before f).1 ∙ sym f))
    (cases_lt (start_at labels k) line.start)

-- where a line is left
pub left_at : (labels : List PlacedLabel) (line : Line) (next : ℕ) (running left : List PlacedLabel)
    → AreSorted labels → line.start < line.end → IsOn labels line next running → left
    ≡ filter (passes line.end) running →
    IsAt labels line.end next left
left_at labels line next running left sorted some on is =
    let both : PlacedLabel → Bool = λ p. is_multi line p && passes line.end p in record {
      count = on.count;
      before = on.before;
      later = on.later;
      carried = is ∙ ap (filter (passes line.end)) on.multi
          ∙ filter_both (is_multi line) (passes line.end) labels
          ∙ sym (filter_beyond both next labels (λ k a b. ap (λ m. m && passes line.end (get_or labels k no_label))
          (later_none line (get_or labels k no_label) (sorted.drawn k b) some (on.later k a b)).1))
          ∙ filter_front both (passes line.end) next labels
          (λ k a b. on_past labels line k sorted some b (on.before k a));
    }
