-- Loops that count the codes of a class at the front.
use Rattle.std.proofs.Common.{◌≡◌, ℕ, suc, ◌+◌, ◌<◌, ◌≤◌, Bool, true, false, not, cond, List, [], ◌∷◌, length, drop}
use Rattle.std.proofs.Common.{get_or, take}
use Rattle.std.proofs.Common.{refl, sym, ap, ◌∙◌, arith, if◌then◌else◌}
use Rattle.std.specs.List.{prefix_len}
use Rattle.std.proofs.lemmas.List.{drop_all, drop_more, length-drop, length-take}
use Rattle.miette_runs.specs.rules.Sequences.{is_line_feed}
use Rattle.miette_text.specs.steps.Ends.{line_len}
use Rattle.miette_text.specs.steps.WholeText.{is_in_row}

-- It counts those at the front that are of the class.
pub record Counts (count : List ℕ → ℕ) (class : ℕ → Bool) : Type 0 where
  pub none : count [] ≡ 0
  pub more : (c : ℕ) (cs : List ℕ) → count (c ∷ cs) ≡ (if class c then suc (count cs) else 0)

row-more : (b : Bool) (n m : ℕ) → n ≡ m → cond (not b) (1 + n) 0 ≡ (if b then 0 else suc m)
row-more true n m e = refl
row-more false n m e = omega (arith, e)

-- a line's codes are those before the first line feed
pub line-row : (cs : List ℕ) → prefix_len is_in_row cs ≡ line_len cs
line-row [] = refl
line-row (c ∷ cs) = row-more (is_line_feed c) (prefix_len is_in_row cs) (line_len cs) (line-row cs)

-- ---- after i of them

module _ (count : List ℕ → ℕ) (class : ℕ → Bool) (counts : Counts count class) (cs : List ℕ) (i x : ℕ) where
  here : i < length cs → x ≡ get_or cs i 0
      → count (drop i cs) ≡ (if class x then suc (count (drop (i + 1) cs)) else 0)
  here l e = ap count (drop_more cs i 0 l ∙ ap (λ y. y ∷ drop (i + 1) cs) (sym e)) ∙ counts.more x (drop (i + 1) cs)

  pub counted-more : i < length cs → x ≡ get_or cs i 0 → class x ≡ true → count cs ≡ i + count (drop i cs)
      → count cs ≡ (i + 1) + count (drop (i + 1) cs)
  counted-more l e h told =
      let one : count (drop i cs) ≡ suc (count (drop (i + 1) cs)) = here l e
      ∙ ap (λ (b : Bool). if b then suc (count (drop (i + 1) cs)) else 0) h in
      omega (arith, told, one)

  pub counted-stop : i < length cs → x ≡ get_or cs i 0 → class x ≡ false → count cs ≡ i + count (drop i cs)
      → i ≡ count cs
  counted-stop l e h told =
      let end : count (drop i cs) ≡ 0 = here l e
      ∙ ap (λ (b : Bool). if b then suc (count (drop (i + 1) cs)) else 0) h in
      omega (arith, told, end)

pub counted-all : (count : List ℕ → ℕ) (class : ℕ → Bool) → Counts count class → (cs : List ℕ) (i : ℕ)
    → length cs ≤ i → count cs ≡ i + count (drop i cs) → i ≡ count cs
counted-all count class counts cs i l told =
    let end : count (drop i cs) ≡ 0 = ap count (drop_all i cs l) ∙ counts.none in
    omega (arith, told, end)

-- ---- `n` codes of what is left of a list stand in it

module _ (start n : ℕ) (cs rest : List ℕ) (room : start ≤ length cs) (is : rest ≡ drop start cs)
    (within : n ≤ length rest) where
  pub counted-within : start + n ≤ length cs
  counted-within = omega (arith, room, within, ap length is, length-drop start cs)

  pub counted-below : (count : ℕ) → count ≡ length cs → start + n ≤ count
  counted-below count all = omega (arith, all, counted-within)

  pub starts-within : (front : List ℕ) → front ≡ take (start + n) cs → start ≤ length front
  starts-within front up = omega (arith, counted-within, ap length up, length-take (start + n) cs)
