-- The columns of a cut line's row grow with what is near.
use Rattle.std.proofs.Common.{ℕ, ◌+◌, ◌-◌, ◌≤◌, ◌≡◌, min, Bool, true, ltb, leb, eqb, List, [], ◌∷◌}
use Rattle.std.proofs.Common.{◌||◌, sym, ap, ◌∙◌, arith}
use Rattle.std.proofs.lemmas.Bool.{and_from, and_parts, le-leb, lt-ltb, leb-true, ltb-true, or_left, or_right}
use Rattle.miette_lines.proofs.Cases.{by_cases}
use Rattle.miette_columns.specs.rules.Cells.{Cell}
use Rattle.miette_snippet_rules.specs.rules.CutLines.{cut_at, is_near, is_within, text_columns}
use Rattle.miette_snippet_rules.proofs.TextColumns.{shown_columns, text_columns_are}

-- ---- more near cells have no fewer columns

-- also after fewer columns that aren't near
grows : (many : ℕ) (near more : Cell → Bool) (p q : ℕ) (cells : List Cell) → q ≤ p
    → ((cell : Cell) → near cell ≡ true → more cell ≡ true)
    → shown_columns many near p cells + min q many ≤ shown_columns many more q cells + min p many
grows many near more p q [] le also =
    let last : min p many + min q many ≤ min q many + min p many = omega arith in last
grows many near more p q (c ∷ cs) le also =
    let w : ℕ = c.until - c.from in
    by_cases {C = shown_columns many near p (c ∷ cs) + min q many ≤ shown_columns many more q (c ∷ cs) + min p many}
    (eqb c.from c.until)
    (λ e. rw e (grows many near more p q cs le also))
    (λ n. by_cases {C = shown_columns many near p (c ∷ cs) + min q many
    ≤ shown_columns many more q (c ∷ cs) + min p many} (near c)
    (λ y.
    let both : more c ≡ true = also c y in
    rw (n, y, both) (omega (arith, grows many near more 0 0 cs (omega arith) also)))
    (λ f. by_cases {C = shown_columns many near p (c ∷ cs) + min q many
    ≤ shown_columns many more q (c ∷ cs) + min p many} (more c)
    (λ y. rw (n, f, y) (omega (arith, grows many near more (p + w) 0 cs (omega arith) also)))
    (λ g. rw (n, f, g) (omega (arith, le, grows many near more (p + w) (q + w) cs (omega (arith, le)) also)))))

-- a cell within `x` columns of an end is within `y`, where these are no fewer
within_more : (x y : ℕ) (cell : Cell) (end : ℕ) → x ≤ y → is_within x cell end ≡ true → is_within y cell end ≡ true
within_more x y cell end le h =
    let parts = and_parts (leb cell.from (end + x)) (ltb end (cell.until + x)) h in
    and_from (leb cell.from (end + y)) (ltb end (cell.until + y))
    (le-leb cell.from (end + y) (omega (arith, le, leb-true cell.from (end + x) parts.0)))
    (lt-ltb end (cell.until + y) (omega (arith, le, ltb-true end (cell.until + x) parts.1)))

near_more : (x y : ℕ) (ends : List ℕ) (cell : Cell) → x ≤ y → is_near x ends cell ≡ true → is_near y ends cell ≡ true
near_more x y [] cell le h = h
near_more x y (e ∷ es) cell le h =
    by_cases {C = is_near y (e ∷ es) cell ≡ true} (is_within x cell e)
    (λ w. or_left (is_within y cell e) (is_near y es cell) (within_more x y cell e le w))
    (λ n.
    let rest : is_near x es cell ≡ true = sym (ap (λ b. b || is_near x es cell) n) ∙ h in
    or_right (is_within y cell e) (is_near y es cell) (near_more x y es cell le rest))

-- so a row has no fewer columns by a larger reach
pub text_grows : (many x y : ℕ) (ends : List ℕ) (cells : List Cell) → x ≤ y →
    text_columns many (cut_at many x ends cells) ≤ text_columns many (cut_at many y ends cells)
text_grows many x y ends cells le =
    omega (
      arith,
      text_columns_are many (is_near x ends) cells,
      text_columns_are many (is_near y ends) cells,
      grows many (is_near x ends) (is_near y ends) 0 0 cells (omega arith)
          (λ cell h. near_more x y ends cell le h),
    )
