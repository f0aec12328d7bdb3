-- The steps of a walk over the letters of a word, up to the end of its first part.
use Rattle.std.proofs.Common.{◌≡◌, ℕ, ◌+◌, ◌<◌, ◌≤◌, Bool, true, false, ◌&&◌, ◌==◌, nat_lt, List, [], ◌∷◌, ◌++◌, length}
use Rattle.std.proofs.Common.{take, drop, get_or, sym, ap, ap₂, ◌∙◌, arith}
use Rattle.std.proofs.lemmas.List.{drop_all, drop_more, take_more}
use Rattle.std.proofs.lemmas.List.Sums.{sum_by-append, sum_by-cons}
use Rattle.miette_runs.specs.rules.Cells.{width}
use Rattle.miette_runs.specs.steps.Cells.{code_columns}
use Rattle.miette_text.specs.rules.Wrapping.{Cuts, is_alphanumeric}
use Rattle.miette_text.specs.steps.Ends.{begins_word, part_len}
use Rattle.miette_text.proofs.SolidRuns.{chosen}

module _ (stop : ℕ → Bool) (cuts : Cuts) (all before used : ℕ) (cs : List ℕ) (i x : ℕ) where
  -- what is looked for is `i` codes and the first part of what is left after them
  abbrev IsLeft : Type 0
  IsLeft = all ≡ i + part_len stop cuts before used (drop i cs)

  abbrev wide : Bool
  wide = cuts.break_words && (nat_lt 0 used && nat_lt cuts.narrow (used + width x))

  abbrev cut : Bool
  cut = cuts.split_hyphens && ((x == 45) && is_alphanumeric before && begins_word (drop (i + 1) cs))

  abbrev more : ℕ
  more = part_len stop cuts x (used + width x) (drop (i + 1) cs)

  here : i < length cs → x ≡ get_or cs i 0
      → part_len stop cuts before used (drop i cs) ≡ chosen (stop x) wide cut more
  here l e = ap (part_len stop cuts before used) (drop_more cs i 0 l ∙ ap (λ y. y ∷ drop (i + 1) cs) (sym e))

  pub part-stops : i < length cs → x ≡ get_or cs i 0 → stop x ≡ true → IsLeft → i ≡ all
  part-stops l e h told =
      let end : part_len stop cuts before used (drop i cs) ≡ 0 = here l e ∙ ap (λ b. chosen b wide cut more) h in
      omega (arith, told, end)

  pub part-wide : i < length cs → x ≡ get_or cs i 0 → stop x ≡ false → wide ≡ true → IsLeft → i ≡ all
  part-wide l e h w told =
      let end : part_len stop cuts before used (drop i cs) ≡ 0 = here l e
      ∙ ap₂ (λ a b. chosen a b cut more) h w in
      omega (arith, told, end)

  pub part-cut : i < length cs → x ≡ get_or cs i 0 → stop x ≡ false → wide ≡ false → cut ≡ true → IsLeft
      → i + 1 ≡ all
  part-cut l e h w k told =
      let end : part_len stop cuts before used (drop i cs) ≡ 1 = here l e
      ∙ ap₂ (λ a b. chosen a b cut more) h w ∙ ap (λ b. chosen false false b more) k in
      omega (arith, told, end)

  pub part-goes : i < length cs → x ≡ get_or cs i 0 → stop x ≡ false → wide ≡ false → cut ≡ false → IsLeft
      → all ≡ (i + 1) + more
  part-goes l e h w k told =
      let on : part_len stop cuts before used (drop i cs) ≡ 1 + more = here l e
      ∙ ap₂ (λ a b. chosen a b cut more) h w ∙ ap (λ b. chosen false false b more) k ∙ omega arith in
      omega (arith, told, on)

pub part-all : (stop : ℕ → Bool) (cuts : Cuts) (all before used : ℕ) (cs : List ℕ) (i : ℕ) → length cs ≤ i
    → all ≡ i + part_len stop cuts before used (drop i cs) → i ≡ all
part-all stop cuts all before used cs i l told =
    let end : part_len stop cuts before used (drop i cs) ≡ 0 = ap (part_len stop cuts before used) (drop_all i cs l) in
    omega (arith, told, end)

-- the columns of one code more
pub columns-more : (cs : List ℕ) (i x : ℕ) → i < length cs → x ≡ get_or cs i 0 → code_columns (take (i + 1) cs)
    ≡ code_columns (take i cs) + width x
columns-more cs i x l e =
    ap code_columns (take_more cs i 0 l ∙ ap (λ y. take i cs ++ y ∷ []) (sym e))
    ∙ sum_by-append width (take i cs) (x ∷ [])
    ∙ ap (λ n. code_columns (take i cs) + n) (sum_by-cons width x [] ∙ omega arith)
