-- What is seen of printable ASCII characters: themselves.
use Rattle.std.proofs.Common.{ℕ, ◌+◌, ◌-◌, ◌<◌, ◌≤◌, ◌≡◌, Bool, true, false, cond, eqb, eqb-true, ltb, List, [], ◌∷◌}
use Rattle.std.proofs.Common.{◌++◌, replicate, refl, sym, ap, ◌∙◌, subst, arith}
use Rattle.std.specs.Prelude.{◌||◌}
use Rattle.std.specs.Char.{is_whitespace}
use Rattle.std.specs.List.{list_all}
use Rattle.std.proofs.lemmas.Bool.{and_parts, le-ltb, lt-ltb, ne_eqb}
use Rattle.miette_lines.proofs.Cases.{by_cases}
use Rattle.miette_columns.proofs.Plaining.{plain_byte}
use Rattle.miette_columns.specs.views.Printable.{is_printable, plain_cells}
use Rattle.miette_snippet_rules.proofs.PlainCells.{printable_cells}
use Rattle.miette_snippet_rules.specs.declared.options.SnippetSettings as made
use Rattle.miette_snippet_rules.specs.views.SnippetSettings.{settings_of}
use Rattle.miette_fix_rows.specs.rules.DiffTexts.{look, seen, without_terminator, without_blanks}

-- a character of one column in front of what is seen
abbrev one_seen : ℕ → ℕ → List ℕ → List ℕ
one_seen column b rest =
    cond (eqb b 9 || is_whitespace b) (replicate (column + 1 - column) 32 ++ rest)
    (cond (eqb column (column + 1)) rest (b ∷ rest))

space_seen : (column : ℕ) (rest : List ℕ) → one_seen column 32 rest ≡ 32 ∷ rest
space_seen column rest =
    let e : column + 1 - column ≡ 1 = omega arith in ap (λ n. replicate n 32 ++ rest) e

-- a character that is printed and no space is no white space
no_white : (b : ℕ) → 32 ≤ b → b < 127 → eqb b 32 ≡ false → (eqb b 9 || is_whitespace b) ≡ false
no_white b low high other =
    let tab : eqb b 9 ≡ false = ne_eqb b 9 (omega arith) in
    let controls : ltb b 14 ≡ false = le-ltb b 14 (omega arith) in
    let after : ltb 8 b ≡ true = lt-ltb 8 b (omega arith) in
    let a : eqb b 133 ≡ false = ne_eqb b 133 (omega arith) in
    let c : eqb b 160 ≡ false = ne_eqb b 160 (omega arith) in
    let d : eqb b 5760 ≡ false = ne_eqb b 5760 (omega arith) in
    let e : ltb 8191 b ≡ false = le-ltb 8191 b (omega arith) in
    let g : eqb b 8232 ≡ false = ne_eqb b 8232 (omega arith) in
    let h : eqb b 8233 ≡ false = ne_eqb b 8233 (omega arith) in
    let i : eqb b 8239 ≡ false = ne_eqb b 8239 (omega arith) in
    let j : eqb b 8287 ≡ false = ne_eqb b 8287 (omega arith) in
    let k : eqb b 12288 ≡ false = ne_eqb b 12288 (omega arith) in
    rw (tab, controls, after, other, a, c, d, e, g, h, i, j, k) refl

other_seen : (column b : ℕ) (rest : List ℕ) → is_printable b ≡ true → eqb b 32 ≡ false
    → one_seen column b rest ≡ b ∷ rest
other_seen column b rest h f =
    let p = plain_byte b h in
    let white : (eqb b 9 || is_whitespace b) ≡ false = no_white b p.low p.high f in
    ap (λ w. cond w (replicate (column + 1 - column) 32 ++ rest) (cond (eqb column (column + 1)) rest (b ∷ rest))) white
    ∙ ap (λ w. cond w rest (b ∷ rest)) (ne_eqb column (column + 1) (omega arith))

printable_seen : (column b : ℕ) (rest : List ℕ) → is_printable b ≡ true → one_seen column b rest ≡ b ∷ rest
printable_seen column b rest h =
    by_cases {C = one_seen column b rest ≡ b ∷ rest} (eqb b 32)
    (λ t. subst (λ x. one_seen column x rest ≡ x ∷ rest) (sym (eqb-true b 32 t)) (space_seen column rest))
    (λ f. other_seen column b rest h f)

all_seen : (offset column : ℕ) (bs : List ℕ) → list_all is_printable bs ≡ true
    → seen (plain_cells offset column bs) ≡ bs
all_seen offset column [] h = refl
all_seen offset column (b ∷ bs) h =
    let parts = and_parts (is_printable b) (list_all is_printable bs) h in
    printable_seen column b (seen (plain_cells (offset + 1) (column + 1) bs)) parts.0
    ∙ ap (λ cs. b ∷ cs) (all_seen (offset + 1) (column + 1) bs parts.1)

-- how a line looks whose text is printable ASCII
pub plain_look : (s : made.SnippetSettings) (line : List ℕ) → list_all is_printable (without_terminator line) ≡ true
    → look (settings_of s) line ≡ without_blanks (without_terminator line)
plain_look s line h =
    ap without_blanks (ap seen (printable_cells s.layout.now.tab_width 0 0 (without_terminator line) h)
    ∙ all_seen 0 0 (without_terminator line) h)

-- what is seen of it
pub plain_seen : (s : made.SnippetSettings) (line text seen : List ℕ) (plain : Bool) → seen ≡ without_blanks text
    → text ≡ without_terminator line → plain ≡ list_all is_printable text → plain ≡ true → seen
    ≡ look (settings_of s) line
plain_seen s line text seen plain is t p all =
    is ∙ ap without_blanks t ∙ sym (plain_look s line (ap (list_all is_printable) (sym t) ∙ sym p ∙ all))
