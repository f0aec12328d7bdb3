-- Parts of parts of bytes, and where lines end in them.
use Rattle.std.proofs.Common.{ℕ, zero, suc, ◌+◌, ◌-◌, ◌<◌, ◌≤◌, ◌≡◌, List, ◌++◌, length, take, drop, refl, sym, ap, ap₂}
use Rattle.std.proofs.Common.{◌∙◌, subst, inl, inr, arith}
use Rattle.std.specs.Prelude.{slice_index, slice_range}
use Rattle.std.proofs.lemmas.Bool.{cases_lt}
use Rattle.std.proofs.lemmas.List.{drop-drop, drop-take, get_or-drop, get_or-take, take-append-drop, take-take}
use Rattle.miette_lines.specs.rules.Lines.{ends_line}
use Rattle.miette_lines.proofs.Parts.{part_length}
use Rattle.miette_fix_rows.proofs.Seams.{Ended}

pub slice_slice : (bs : List ℕ) (x y a e : ℕ) → a ≤ e → x + e ≤ y
    → slice_range (slice_range bs x y) a e ≡ slice_range bs (x + a) (x + e)
slice_slice bs x y a e le within =
    let n : ℕ = y - x in
    let s : n ≡ a + (n - a) = omega (arith, le, within) in
    let cut : drop a (take n (drop x bs)) ≡ take (n - a) (drop a (drop x bs)) =
    ap (λ m. drop a (take m (drop x bs))) s ∙ drop-take a (n - a) (drop x bs) in
    let long : x + e - (x + a) ≡ e - a = omega arith in
    ap (take (e - a)) cut ∙ take-take (e - a) (n - a) (drop a (drop x bs)) (omega (arith, within))
    ∙ ap (take (e - a)) (drop-drop a x bs) ∙ ap (λ m. take m (drop (x + a) bs)) (sym long)

pub slice_at : (bs : List ℕ) (x y i : ℕ) → x + i < y → slice_index (slice_range bs x y) i ≡ slice_index bs (x + i)
slice_at bs x y i lt = get_or-take (y - x) (drop x bs) i 0 (omega (arith, lt)) ∙ get_or-drop x bs i 0

-- where a line ends in a part, one ends in the whole
pub ended_part : (bs : List ℕ) (x y a : ℕ) → Ended (slice_range bs x y) a → x + a ≤ y → y ≤ length bs → Ended bs x
    → Ended bs y → Ended bs (x + a)
ended_part bs x y zero h le high ex ey = subst (λ n. Ended bs n) (omega arith) ex
ended_part bs x y (suc a) h le high ex ey =
    elim (cases_lt (x + suc a) y) [
      | inl lt ↦ (λ k e within.
          let n : length (slice_range bs x y) ≡ y - x = part_length bs x y high in
          let at : x + a ≡ k = omega (arith, e) in
          let here : slice_index (slice_range bs x y) a ≡ slice_index bs k =
          slice_at bs x y a (omega (arith, lt)) ∙ ap (slice_index bs) at in
          let next : slice_index (slice_range bs x y) (suc a) ≡ slice_index bs (x + suc a) =
          slice_at bs x y (suc a) lt in
          sym (ap₂ ends_line here next) ∙ h a refl (omega (arith, n, lt)))
      | inr ge ↦ subst (λ n. Ended bs n) (let e : y ≡ x + suc a = omega (arith, le, ge) in e) ey
    ]

-- a part in two
pub slice_join : (bs : List ℕ) (p q r : ℕ) → p ≤ q → q ≤ r
    → slice_range bs p r ≡ slice_range bs p q ++ slice_range bs q r
slice_join bs p q r le low =
    let n : ℕ = q - p in
    let s : r - p ≡ n + (r - q) = omega (arith, le, low) in
    let t : p + n ≡ q = omega (arith, le) in
    let xs : List ℕ = drop p bs in
    ap (λ m. take m xs) s ∙ sym (take-append-drop n (take (n + (r - q)) xs))
    ∙ ap₂ ◌++◌ (take-take n (n + (r - q)) xs (omega arith))
    (drop-take n (r - q) xs ∙ ap (take (r - q)) (drop-drop n p bs ∙ ap (λ m. drop m bs) t))

pub drop_join : (bs : List ℕ) (p q : ℕ) → p ≤ q → drop p bs ≡ slice_range bs p q ++ drop q bs
drop_join bs p q le =
    let t : p + (q - p) ≡ q = omega (arith, le) in
    sym (take-append-drop (q - p) (drop p bs))
    ∙ ap (λ ys. slice_range bs p q ++ ys) (drop-drop (q - p) p bs ∙ ap (λ m. drop m bs) t)

-- of the first bytes
pub drop_front : (bs : List ℕ) (p m : ℕ) → p ≤ m → drop p (take m bs) ≡ slice_range bs p m
drop_front bs p m le =
    let s : m ≡ p + (m - p) = omega (arith, le) in
    ap (λ n. drop p (take n bs)) s ∙ drop-take p (m - p) bs

pub slice_front : (bs : List ℕ) (p r m : ℕ) → p ≤ r → r ≤ m → slice_range (take m bs) p r ≡ slice_range bs p r
slice_front bs p r m le low =
    ap (take (r - p)) (drop_front bs p m (omega (arith, le, low)))
    ∙ take-take (r - p) (m - p) (drop p bs) (omega (arith, low))
