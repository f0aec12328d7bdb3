-- The runs of the numbers that pass a test: the number before a run doesn't pass, nor does the one after it.
use Rattle.std.proofs.Common.{ℕ, zero, suc, ◌+◌, ◌-◌, ◌<◌, ◌≤◌, ◌≡◌, Bool, true, false, eqb, List, [], ◌∷◌, length}
use Rattle.std.proofs.Common.{refl, sym, ap, ◌∙◌, ⊎_elim, subst, arith}
use Rattle.std.specs.List.{range_with_len, filter, AllByRecursion}
use Rattle.std.proofs.lemmas.Bool.{eqb-true, eqb-false, cases_lt}
use Rattle.std.proofs.lemmas.List.FromFn.{length-range_with_len}
use Rattle.miette_snippet_rules.specs.rules.Numbers.{onto_range, ranges}
use Rattle.miette_lines.proofs.Cases.{by_cases}

-- a run of the numbers from one place up to another, with none that passes before it
record IsStretch (p : ℕ → Bool) (from to : ℕ) (run : List ℕ) : Type 0 where
  pub low : ℕ
  pub many : ℕ
  pub is : run ≡ range_with_len low (suc many)
  pub after : from ≤ low
  pub inside : low + suc many ≤ to
  pub gap : (k : ℕ) → from ≤ k → k < low → p k ≡ false
  pub all : (k : ℕ) → low ≤ k → k < low + suc many → p k ≡ true
  pub above : low + suc many < to → p (low + suc many) ≡ false

-- runs one after another, and all numbers that pass
abbrev AreLineParts : (ℕ → Bool) → ℕ → ℕ → List (List ℕ) → Type 0
AreLineParts p from to [] = (k : ℕ) → from ≤ k → k < to → p k ≡ false
AreLineParts p from to (run ∷ later) = (b : IsStretch p from to run) × AreLineParts p (b.low + suc b.many) to later

at_or_after : (C : Type 0) (from k : ℕ) → from ≤ k → (from ≡ k → C) → (from + 1 ≤ k → C) → C
at_or_after C from k le here later = ⊎_elim {C = C} (λ lt. later (omega (arith, lt)))
    (λ ge. here (omega (arith, le, ge))) (cases_lt from k)

-- a number in front that doesn't pass
unpassed : (p : ℕ → Bool) (from to : ℕ) (rs : List (List ℕ)) → p from ≡ false → AreLineParts p (from + 1) to rs
    → AreLineParts p from to rs
unpassed p from to [] fails h = λ k le lt. at_or_after (p k ≡ false) from k le (λ e. ap p (sym e) ∙ fails)
    (λ more. h k more lt)
unpassed p from to (run ∷ later) fails h =
    let b : IsStretch p (from + 1) to run = h.0 in (
      record {
        low = b.low;
        many = b.many;
        is = b.is;
        after = omega (arith, b.after);
        inside = b.inside;
        gap = λ k le lt. at_or_after (p k ≡ false) from k le (λ e. ap p (sym e) ∙ fails) (λ more. b.gap k more lt);
        all = b.all;
        above = b.above;
      },
      h.1,
    )

head_is : (next low many : ℕ) (run : List ℕ) → next ∷ run ≡ range_with_len low (suc many) → next ≡ low
head_is next low many run e = cc

-- a number in front that passes, alone
single : (p : ℕ → Bool) (from to : ℕ) (rs : List (List ℕ)) → from < to → p from ≡ true
    → (from + 1 < to → p (from + 1) ≡ false) → AreLineParts p (from + 1) to rs →
    AreLineParts p from to ((from ∷ []) ∷ rs)
single p from to rs lt passes above h =
    let one : from + suc zero ≡ from + 1 = omega arith in (
      record {
        low = from;
        many = zero;
        is = refl;
        after = omega arith;
        inside = omega (arith, lt);
        gap = λ k le less. absurd (omega (arith, le, less));
        all = λ k le less. let e : from ≡ k = omega (arith, le, less) in ap p (sym e) ∙ passes;
        above = λ less. ap p one ∙ above (omega (arith, less));
      },
      subst (λ (n : ℕ). AreLineParts p n to rs) (sym one) h,
    )

-- a number in front that passes, before a run that begins with the next one
longer : (p : ℕ → Bool) (from to next : ℕ) (run : List ℕ) (later : List (List ℕ)) → from < to → p from ≡ true → next
    ≡ from + 1 → AreLineParts p (from + 1) to ((next ∷ run) ∷ later) →
    AreLineParts p from to ((from ∷ next ∷ run) ∷ later)
longer p from to next run later lt passes e h =
    let b : IsStretch p (from + 1) to (next ∷ run) = h.0 in
    let low : b.low ≡ from + 1 = sym (head_is next b.low b.many run b.is) ∙ e in
    let ends : b.low + suc b.many ≡ from + suc (suc b.many) = omega (arith, low) in (
      record {
        low = from;
        many = suc b.many;
        is = ap (λ r. from ∷ r) (b.is ∙ ap (λ n. range_with_len n (suc b.many)) low);
        after = omega arith;
        inside = omega (arith, low, b.inside);
        gap = λ k le less. absurd (omega (arith, le, less));
        all = λ k le less. at_or_after (p k ≡ true) from k le (λ same. ap p (sym same) ∙ passes)
            (λ more. b.all k (omega (arith, low, more)) (omega (arith, low, less)));
        above = λ less. ap p (sym ends) ∙ b.above (omega (arith, ends, less));
      },
      subst (λ (n : ℕ). AreLineParts p n to later) ends h.1,
    )

onto : (p : ℕ → Bool) (from to : ℕ) (rs : List (List ℕ)) → from < to → p from ≡ true → AreLineParts p (from + 1) to rs
    → AreLineParts p from to (onto_range from rs)
onto p from to [] lt passes h = single p from to [] lt passes (λ more. h (from + 1) (omega arith) more) h
onto p from to ([] ∷ later) lt passes h = absurd (let b : IsStretch p (from + 1) to [] = h.0 in let bad : 0
    ≡ suc b.many = ap length b.is ∙ length-range_with_len b.low (suc b.many) in omega (arith, bad))
onto p from to ((next ∷ run) ∷ later) lt passes h =
    let b : IsStretch p (from + 1) to (next ∷ run) = h.0 in
    by_cases {C = AreLineParts p from to (onto_range from ((next ∷ run) ∷ later))} (eqb next (from + 1))
    (λ t. rw t (longer p from to next run later lt passes (eqb-true next (from + 1) t) h))
    (λ f. rw f (single p from to ((next ∷ run) ∷ later) lt passes
    (λ more. at_or_after (p (from + 1) ≡ false) (from + 1) b.low b.after
    (λ same. absurd (eqb-false next (from + 1) f (head_is next b.low b.many run b.is ∙ sym same)))
    (λ past. b.gap (from + 1) (omega arith) (omega (arith, past)))) h))

line_parts : (p : ℕ → Bool) (from many to : ℕ) → to ≡ from + many
    → AreLineParts p from to (ranges (filter p (range_with_len from many)))
line_parts p from zero to e = λ k le lt. absurd (omega (arith, e, le, lt))
line_parts p from (suc many) to e =
    let rest : AreLineParts p (from + 1) to (ranges (filter p (range_with_len (from + 1) many))) =
    line_parts p (from + 1) many to (omega (arith, e)) in
    by_cases {C = AreLineParts p from to (ranges (filter p (range_with_len from (suc many))))} (p from)
    (λ t. rw t (onto p from to (ranges (filter p (range_with_len (from + 1) many))) (omega (arith, e)) t rest))
    (λ f. rw f (unpassed p from to (ranges (filter p (range_with_len (from + 1) many))) f rest))

-- some of the numbers up to a place: all of them pass, but not the one before them or the one after
pub record IsMaximal (p : ℕ → Bool) (to low many : ℕ) : Type 0 where
  pub some : 0 < many
  pub inside : low + many ≤ to
  pub all : (k : ℕ) → low ≤ k → k < low + many → p k ≡ true
  pub below : 0 < low → p (low - 1) ≡ false
  pub above : low + many < to → p (low + many) ≡ false

-- a run's numbers
pub range_same : (a x b y : ℕ) → range_with_len a x ≡ range_with_len b y → (x ≡ y) × (0 < y → a ≡ b)
range_same a zero b zero e = (refl, λ lt. absurd (omega (arith, lt)))
range_same a zero b (suc y) e = absurd (cc)
range_same a (suc x) b zero e = absurd (cc)
range_same a (suc x) b (suc y) e = (
  sym (length-range_with_len a (suc x)) ∙ ap length e
      ∙ length-range_with_len b (suc y),
  λ lt. cc,
)

-- what holds of a run, given as its first number and how many there are
abbrev pub OfRun : (ℕ → ℕ → Type 0) → List ℕ → Type 0
OfRun P run = (low many : ℕ) → run ≡ range_with_len low many → P low many

abbrev pub Gives : (List ℕ → Type 0) → (ℕ → Bool) → ℕ → Type 0
Gives Q p to = (low many : ℕ) → IsMaximal p to low many → Q (range_with_len low many)

-- what holds of the numbers of each maximal run holds of each run
each_of : (Q : List ℕ → Type 0) (p : ℕ → Bool) (from to : ℕ) (rs : List (List ℕ)) → AreLineParts p from to rs
    → (0 < from → from < to → p from ≡ false) → Gives Q p to → AllByRecursion Q rs
each_of Q p from to [] h edge give = tt
each_of Q p from to (run ∷ later) h edge give =
    let b : IsStretch p from to run = h.0 in
    let below : 0 < b.low → p (b.low - 1) ≡ false = λ pos. at_or_after (p (b.low - 1) ≡ false) from b.low b.after
    (λ same. absurd (let passes : p from ≡ true = ap p same ∙ b.all b.low (omega arith) (omega arith) in
    let fails : p from ≡ false = edge (omega (arith, same, pos)) (omega (arith, same, b.inside)) in
    cc (passes, fails)))
    (λ past. b.gap (b.low - 1) (omega (arith, past)) (omega (arith, pos))) in
    let whole : IsMaximal p to b.low (suc b.many) = record {
      some = omega arith;
      inside = b.inside;
      all = b.all;
      below =
          below;
      above = b.above;
    } in (
      subst Q (sym b.is) (give b.low (suc b.many) whole),
      each_of Q p (b.low + suc b.many) to later h.1
          (λ pos lt. b.above lt) give,
    )

pub each_numbers : (Q : List ℕ → Type 0) (p : ℕ → Bool) (to : ℕ) → Gives Q p to
    → AllByRecursion Q (ranges (filter p (range_with_len 0 to)))
each_numbers Q p to give = each_of Q p 0 to (ranges (filter p (range_with_len 0 to)))
    (line_parts p 0 to to (omega arith)) (λ pos lt. absurd (omega (arith, pos))) give

-- what holds of all maximal runs of the numbers that pass a test, by their first number and how many they have
pub each_run : (P : ℕ → ℕ → Type 0) (p : ℕ → Bool) (to : ℕ) → ((low many : ℕ) → IsMaximal p to low many → P low many)
    → AllByRecursion (OfRun P) (ranges (filter p (range_with_len 0 to)))
each_run P p to give = each_numbers (OfRun P) p to (λ low many m. λ a x e.
    let same = range_same low many a x e in
    subst (λ (y : ℕ). P a y) same.0 (subst (λ (b : ℕ). P b many) (same.1 (omega (arith, m.some, same.0)))
    (give low many m)))
