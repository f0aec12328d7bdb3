-- Numbers upwards, and a filter of them.
use Rattle.std.proofs.Common.{ℕ, zero, suc, ◌+◌, ◌<◌, ◌≤◌, ◌≡◌, Bool, true, false, cond, [], ◌∷◌, ◌++◌, refl}
use Rattle.std.proofs.Common.{ap, ◌∙◌, append-nil, arith}
use Rattle.std.proofs.lemmas.List.Elements.{filter-append}
use Rattle.std.specs.List.{range_with_len, filter}

pub range_with_len-append : (from x y : ℕ) → range_with_len from (x + y) ≡ range_with_len from x
    ++ range_with_len (from + x) y
range_with_len-append from zero y = let e : zero + y ≡ y = omega arith in let f : from + zero ≡ from = omega arith in
    rw (e, f) refl
range_with_len-append from (suc x) y =
    let e : suc x + y ≡ suc (x + y) = omega arith in
    let f : from + suc x ≡ from + 1 + x = omega arith in
    rw (e, f) (ap (λ r. from ∷ r) (range_with_len-append (from + 1) x y))

-- a filter of numbers none of which passes
pub filter-none : (p : ℕ → Bool) (from many : ℕ) → ((k : ℕ) → from ≤ k → k < from + many → p k ≡ false)
    → filter p (range_with_len from many) ≡ []
filter-none p from zero h = refl
filter-none p from (suc many) h =
    rw (h from (omega arith) (omega arith)) (filter-none p (from + 1) many (λ k a b. h k (omega arith) (omega arith)))

-- a filter of numbers all of which pass
pub filter-whole : (p : ℕ → Bool) (from many : ℕ) → ((k : ℕ) → from ≤ k → k < from + many → p k ≡ true)
    → filter p (range_with_len from many) ≡ range_with_len from many
filter-whole p from zero h = refl
filter-whole p from (suc many) h =
    rw (h from (omega arith) (omega arith)) (ap (λ r. from ∷ r)
    (filter-whole p (from + 1) many (λ k a b. h k (omega arith) (omega arith))))

-- two tests that agree on the numbers keep the same
pub filter-same : (p q : ℕ → Bool) (from many : ℕ) → ((k : ℕ) → from ≤ k → k < from + many → p k ≡ q k)
    → filter p (range_with_len from many) ≡ filter q (range_with_len from many)
filter-same p q from zero h = refl
filter-same p q from (suc many) h =
    rw (h from (omega arith) (omega arith)) (ap (λ r. cond (q from) (from ∷ r) r)
    (filter-same p q (from + 1) many (λ k a b. h k (omega arith) (omega arith))))

-- numbers that pass from one place up to another, and nowhere else
pub filter-range : (p : ℕ → Bool) (low many rest : ℕ) → ((k : ℕ) → k < low → p k ≡ false)
    → ((k : ℕ) → low ≤ k → k < low + many → p k ≡ true) →
    ((k : ℕ) → low + many ≤ k → k < low + many + rest → p k ≡ false) → filter p (range_with_len 0 (low + many + rest))
    ≡ range_with_len low many
filter-range p low many rest below within above =
    let z : 0 + (low + many) ≡ low + many = omega arith in
    let y : 0 + low ≡ low = omega arith in
    let first : filter p (range_with_len 0 low) ≡ [] = filter-none p 0 low (λ k a b. below k (omega arith)) in
    let mid : filter p (range_with_len low many) ≡ range_with_len low many = filter-whole p low many within in
    let last : filter p (range_with_len (low + many) rest) ≡ [] = filter-none p (low + many) rest above in
    ap (filter p) (range_with_len-append 0 (low + many) rest)
    ∙ filter-append p (range_with_len 0 (low + many)) (range_with_len (0 + (low + many)) rest)
    ∙ ap (λ r. filter p r ++ filter p (range_with_len (0 + (low + many)) rest)) (range_with_len-append 0 low many)
    ∙ rw (z, y, last, append-nil, filter-append p (range_with_len 0 low) (range_with_len low many), first, mid) refl

-- What passes p is a range, and then what passes q, of which nothing stands before the range's end.
pub filter-front : (p q : ℕ → Bool) (low many rest : ℕ) → ((k : ℕ) → k < low → p k ≡ false)
    → ((k : ℕ) → low ≤ k → k < low + many → p k ≡ true) → ((k : ℕ) → k < low + many → q k ≡ false)
    → ((k : ℕ) → low + many ≤ k → k < low + many + rest → p k ≡ q k)
    → filter p (range_with_len 0 (low + many + rest)) ≡ range_with_len low many
    ++ filter q (range_with_len 0 (low + many + rest))
filter-front p q low many rest below within none same =
    let z : 0 + (low + many) ≡ low + many = omega arith in
    let y : 0 + low ≡ low = omega arith in
    let first : filter p (range_with_len 0 low) ≡ [] = filter-none p 0 low (λ k a b. below k (omega arith)) in
    let mid : filter p (range_with_len low many) ≡ range_with_len low many = filter-whole p low many within in
    let last : filter p (range_with_len (low + many) rest) ≡ filter q (range_with_len (low + many) rest) =
    filter-same p q (low + many) rest same in
    let front : filter q (range_with_len 0 (low + many)) ≡ [] =
    filter-none q 0 (low + many) (λ k a b. none k (omega arith)) in
    let whole : filter q (range_with_len 0 (low + many + rest)) ≡ filter q (range_with_len (low + many) rest) =
    ap (filter q) (range_with_len-append 0 (low + many) rest)
    ∙ filter-append q (range_with_len 0 (low + many)) (range_with_len (0 + (low + many)) rest)
    ∙ rw (z, front) refl in
    ap (filter p) (range_with_len-append 0 (low + many) rest)
    ∙ filter-append p (range_with_len 0 (low + many)) (range_with_len (0 + (low + many)) rest)
    ∙ ap (λ r. filter p r ++ filter p (range_with_len (0 + (low + many)) rest)) (range_with_len-append 0 low many)
    ∙ rw (z, y, last, filter-append p (range_with_len 0 low) (range_with_len low many), first, mid, whole) refl
