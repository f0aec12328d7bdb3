-- What a line's ends alone need in its row: their own characters, and dots beside them.
use Rattle.std.proofs.Common.{◌≡◌, ℕ, ◌+◌, ◌-◌, ◌*◌, ◌<◌, ◌≤◌, Bool, true, false, eqb, ltb, leb, List, [], ◌∷◌}
use Rattle.std.proofs.Common.{length, refl, ◌||◌, arith}
use Rattle.std.proofs.lemmas.Bool.{and_left, and_parts, lt-leb, ltb-true, or_from, or_left, or_right}
use Rattle.std.proofs.Math.Nat.{suc-mul}
use Rattle.miette_columns.specs.rules.Cells.{Cell}
use Rattle.miette_lines.proofs.Cases.{by_cases}
use Rattle.miette_snippet_rules.specs.rules.CutLines.{cut_at, is_near, is_within, text_columns}
use Rattle.miette_snippet_rules.proofs.CutColumns.{AreColumns}
use Rattle.miette_snippet_rules.proofs.TextColumns.{shown_columns, text_columns_are}
use Rattle.miette_snippet_laws.specs.laws.Cuts.{AreAsWide}

-- the cells that have a column are near too
abbrev also_at : ℕ → (Cell → Bool) → Cell → Bool
also_at end near cell = is_within 0 cell end || near cell

-- fewer columns before cells, fewer columns in the row
fewer : (many : ℕ) (near : Cell → Bool) (p q : ℕ) (cells : List Cell) → p ≤ q
    → shown_columns many near p cells ≤ shown_columns many near q cells
fewer many near p q [] le = omega (arith, le)
fewer many near p q (c ∷ cs) le =
    by_cases {C = shown_columns many near p (c ∷ cs) ≤ shown_columns many near q (c ∷ cs)} (eqb c.from c.until)
    (λ y. rw y (fewer many near p q cs le))
    (λ n. by_cases {C = shown_columns many near p (c ∷ cs) ≤ shown_columns many near q (c ∷ cs)} (near c)
    (λ y. rw (n, y) (omega (arith, le)))
    (λ f. rw (n, f) (fewer many near (p + (c.until - c.from)) (q + (c.until - c.from)) cs (omega (arith, le)))))

-- after a column no cell has it
after_same : (many end column p : ℕ) (near : Cell → Bool) (cells : List Cell) → AreColumns column cells
    → end < column → shown_columns many (also_at end near) p cells ≡ shown_columns many near p cells
after_same many end column p near [] h lt = refl
after_same many end column p near (c ∷ cs) h lt =
    let none : is_within 0 c end ≡ false = and_left (leb c.from (end + 0)) (ltb end (c.until + 0))
    (lt-leb c.from (end + 0) (omega (arith, h.0, lt))) in
    let later : end < c.until = omega (arith, h.0, h.1, lt) in
    by_cases {C = shown_columns many (also_at end near) p (c ∷ cs) ≡ shown_columns many near p (c ∷ cs)}
    (eqb c.from c.until)
    (λ y. rw y (after_same many end c.until p near cs h.2 later))
    (λ n. by_cases {C = shown_columns many (also_at end near) p (c ∷ cs) ≡ shown_columns many near p (c ∷ cs)}
    (near c)
    (λ y. rw (n, none, y) (omega (arith, after_same many end c.until 0 near cs h.2 later)))
    (λ f. rw (n, none, f) (after_same many end c.until (p + (c.until - c.from)) near cs h.2 later)))

-- one end more needs its own character, and dots before it
one_more : (many widest end column p : ℕ) (near : Cell → Bool) (cells : List Cell) → AreColumns column cells
    → AreAsWide widest cells
    → shown_columns many (also_at end near) p cells ≤ shown_columns many near p cells + (widest + many)
one_more many widest end column p near [] h w = omega arith
one_more many widest end column p near (c ∷ cs) h w =
    let own : ℕ = c.until - c.from in
    by_cases {C = shown_columns many (also_at end near) p (c ∷ cs)
    ≤ shown_columns many near p (c ∷ cs) + (widest + many)} (eqb c.from c.until)
    (λ y. rw y (one_more many widest end c.until p near cs h.2 w.1))
    (λ n. by_cases {C = shown_columns many (also_at end near) p (c ∷ cs)
    ≤ shown_columns many near p (c ∷ cs) + (widest + many)} (near c)
    (λ y. let both : also_at end near c ≡ true = or_right (is_within 0 c end) (near c) y in
    rw (n, both, y) (omega (arith, one_more many widest end c.until 0 near cs h.2 w.1)))
    (λ f. by_cases {C = shown_columns many (also_at end near) p (c ∷ cs)
    ≤ shown_columns many near p (c ∷ cs) + (widest + many)} (is_within 0 c end)
    (λ y. let both : also_at end near c ≡ true = or_left (is_within 0 c end) (near c) y in
    let past : end < c.until = omega (
      arith,
      ltb-true end (c.until + 0)
          (and_parts (leb c.from (end + 0)) (ltb end (c.until + 0)) y).1,
    ) in
    rw (n, both, f) (omega (
      arith,
      w.0,
      after_same many end c.until 0 near cs h.2 past,
      fewer many near 0 (p + own) cs (omega arith),
    )))
    (λ g. let none : also_at end near c ≡ false = or_from (is_within 0 c end) (near c) g f in
    rw (n, none, f) (one_more many widest end c.until (p + own) near cs h.2 w.1))))

none_near : (many p : ℕ) (cells : List Cell) → shown_columns many (is_near 0 []) p cells ≤ many
none_near many p [] = omega arith
none_near many p (c ∷ cs) =
    by_cases {C = shown_columns many (is_near 0 []) p (c ∷ cs) ≤ many} (eqb c.from c.until)
    (λ y. rw y (none_near many p cs)) (λ n. rw n (none_near many (p + (c.until - c.from)) cs))

near_few : (many widest : ℕ) (ends : List ℕ) (cells : List Cell) → AreColumns 0 cells → AreAsWide widest cells
    → shown_columns many (is_near 0 ends) 0 cells ≤ length ends * (widest + many) + many
near_few many widest [] cells h w = omega (arith, none_near many 0 cells)
near_few many widest (e ∷ es) cells h w =
    let more : shown_columns many (is_near 0 (e ∷ es)) 0 cells
    ≤ shown_columns many (is_near 0 es) 0 cells + (widest + many) =
    one_more many widest e 0 0 (is_near 0 es) cells h w in
    omega (arith, more, near_few many widest es cells h w, suc-mul (length es) (widest + many))

pub ends_few : (many widest : ℕ) (ends : List ℕ) (cells : List Cell) → AreColumns 0 cells → AreAsWide widest cells
    → text_columns many (cut_at many 0 ends cells) ≤ length ends * (widest + many) + many
ends_few many widest ends cells h w =
    let is : text_columns many (cut_at many 0 ends cells) ≡ shown_columns many (is_near 0 ends) 0 cells =
    text_columns_are many (is_near 0 ends) cells in omega (arith, is, near_few many widest ends cells h w)
