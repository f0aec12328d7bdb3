-- The rows of the rules are the only ones.
use Rattle.std.proofs.Common.{◌≡◌, ℕ, ◌+◌, ◌<◌, ◌≤◌, Bool, true, false, nat_lt, List, [], ◌∷◌, ◌++◌, refl, sym, ap, ◌∙◌}
use Rattle.std.proofs.Common.{if◌then◌else◌, ltb-true, ltb-false, lt-ltb, le-ltb}
use Rattle.miette_text.specs.rules.Wrapping.{Word, columns, word_cells, rows, rows_after}
use Rattle.miette_text.specs.laws.FilledRows.{all_words, Fits, used_after, Below, IsFilled}
use Rattle.miette_lines.specs.rules.Lists.{onto}

-- the rest of a row after `used` columns, and the rows below it
abbrev After : ℕ → ℕ → ℕ → List Word → List (List Word) → Type 0
After used room further r rs = Fits room used r × Below room further (used_after used r) rs

abbrev Only : List (List Word) → Type 0
Only rs = (used room further : ℕ) (r : List Word) → After used room further r rs → r ∷ rs
    ≡ rows_after used room further (r ++ all_words rs)

abbrev OnlyEmpty : List (List Word) → Type 0
OnlyEmpty rs = (used room further : ℕ) → After used room further [] rs → [] ∷ rs
    ≡ rows_after used room further (all_words rs)

walk : (rs : List (List Word)) → OnlyEmpty rs → Only rs
walk rs k used room further [] h = k used room further h
walk rs k used room further (w ∷ ws) h =
    ap (onto w) (walk rs k (used + columns (word_cells w)) room further ws (h.0.1, h.1))
    ∙ ap (λ (b : Bool). if b then [] ∷ onto w (rows_after (columns (word_cells w)) further further
    (ws ++ all_words rs)) else onto w (rows_after (used + columns (word_cells w)) room further
    (ws ++ all_words rs))) (sym (le-ltb room (used + columns w.letters) h.0.0))

below : (rs : List (List Word)) → OnlyEmpty rs
below [] used room further h = refl
below ([] ∷ qs) used room further h = absurd h.1.0
below ((w ∷ ws) ∷ qs) used room further h =
    ap (λ us. [] ∷ onto w us) (walk qs (below qs) (columns (word_cells w)) further further ws (h.1.1, h.1.2))
    ∙ ap (λ (b : Bool). if b then [] ∷ onto w (rows_after (columns (word_cells w)) further further
    (ws ++ all_words qs)) else onto w (rows_after (used + columns (word_cells w)) room further
    (ws ++ all_words qs))) (sym (lt-ltb room (used + columns w.letters) h.1.0))

-- Rows of which that holds are those that the words they hold fill.
pub only_rows : (room further : ℕ) (rs : List (List Word)) → IsFilled room further rs → rs
    ≡ rows room further (all_words rs)
only_rows room further [] h = absurd h
only_rows room further ([] ∷ []) h = refl
only_rows room further ([] ∷ q ∷ qs) h = absurd h
only_rows room further ((w ∷ ws) ∷ rs) h = ap (onto w)
    (walk rs (below rs) (columns (word_cells w)) room further ws (h.0, h.1))

-- ---- and the rules' rows are such

abbrev Cons : ℕ → ℕ → ℕ → List (List Word) → Type 0
Cons used room further [] = ⊥
Cons used room further (r ∷ rs) = After used room further r rs

first_of : (used room further : ℕ) (w : Word) (rs : List (List Word)) → used + columns w.letters ≤ room
    → Cons (used + columns (word_cells w)) room further rs → Cons used room further (onto w rs)
first_of used room further w [] l h = absurd h
first_of used room further w (r ∷ rs) l h = ((l, h.0), h.1)

next_of : (used room further : ℕ) (w : Word) (rs : List (List Word)) → room < used + columns w.letters
    → Cons (columns (word_cells w)) further further rs → Cons used room further ([] ∷ onto w rs)
next_of used room further w [] l h = absurd h
next_of used room further w (r ∷ rs) l h = (tt, (l, h.0, h.1))

after_rows : (used room further : ℕ) (ws : List Word) → Cons used room further (rows_after used room further ws)
after_rows used room further [] = (tt, tt)
after_rows used room further (w ∷ ws) =
    elim (nat_lt room (used + columns w.letters)) as (λ b. nat_lt room (used + columns w.letters) ≡ b
    → Cons used room further (if b then [] ∷ onto w (rows_after (columns (word_cells w)) further further ws)
    else onto w (rows_after (used + columns (word_cells w)) room further ws))) [
      | true ↦ λ e. next_of used room further w (rows_after (columns (word_cells w)) further further ws)
          (ltb-true room (used + columns w.letters) e) (after_rows (columns (word_cells w)) further further ws)
      | false ↦ λ e. first_of used room further w (rows_after (used + columns (word_cells w)) room further ws)
          (ltb-false room (used + columns w.letters) e) (after_rows (used + columns (word_cells w)) room further ws)
    ] refl

filled_onto : (room further : ℕ) (w : Word) (rs : List (List Word)) → Cons (columns (word_cells w)) room further rs
    → IsFilled room further (onto w rs)
filled_onto room further w [] h = absurd h
filled_onto room further w (r ∷ rs) h = (h.0, h.1)

pub rows-filled : (room further : ℕ) (ws : List Word) → IsFilled room further (rows room further ws)
rows-filled room further [] = tt
rows-filled room further (w ∷ ws) = filled_onto room further w (rows_after (columns (word_cells w)) room further ws)
    (after_rows (columns (word_cells w)) room further ws)
