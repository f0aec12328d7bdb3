-- Rows of runs are rows by columns: what their glyphs are.
use Rattle.std.proofs.Common.{ℕ, zero, suc, ◌+◌, ◌-◌, ◌<◌, ◌≤◌, ◌≡◌, true, false, ltb, leb, eqb, List, [], ◌∷◌, ◌++◌}
use Rattle.std.proofs.Common.{map, replicate, refl, sym, ap, ap₂, subst, ◌∙◌, ◌&&◌, append_assoc, append-nil, arith}
use Rattle.std.proofs.lemmas.Bool.{lt-ltb, le-ltb, le-leb, lt-leb, and_right, ne_eqb, eq-eqb}
use Rattle.std.proofs.lemmas.List.{map-append}
use Rattle.std.specs.List.{range_with_len}
use Rattle.miette_style.specs.rules.Rows.{Glyph, Row, glyphs_of, glyph_of, styled_run}
use Rattle.miette_snippet_rules.specs.rules.Underlines.{Underline, AreApart}
use Rattle.miette_snippet_rules.specs.rules.LabelRows.{underline_code, underline_runs, connector_runs, label_text_row}
use Rattle.miette_snippet_rules.specs.rules.LabelRows.{corner}
use Rattle.miette_snippet_rules.specs.rules.LabelRows.{corner_of_several, beside, rows_of_parts, label_text_rows}
use Rattle.miette_snippet_rules.specs.rules.SnippetLayout.{before_each}
use Rattle.miette_snippet_laws.specs.laws.LineRows.{underline_glyph_at, underlines_end}
use Rattle.miette_lines.proofs.Ranges.{range_with_len-append}
use Rattle.miette_snippet_laws.proofs.GlyphRows.{lead_at, lead, corner_pieces, beside_pieces, glyph_rows_of_parts}
use Rattle.miette_snippet_laws.proofs.GlyphRows.{glyph_rows_below}
use Rattle.miette_snippet_rules.specs.rules.SnippetSettings.{SnippetSettings}

pub glyphs_of-append : (a b : Row) → glyphs_of (a ++ b) ≡ glyphs_of a ++ glyphs_of b
glyphs_of-append [] b = refl
glyphs_of-append (run ∷ a) b = ap (λ r. run.glyphs ++ r) (glyphs_of-append a b)
    ∙ sym (append_assoc run.glyphs (glyphs_of a) (glyphs_of b))

-- rows after one row
pub before_pieces : (front : Row) (rows : List Row) → map glyphs_of (before_each front rows)
    ≡ map (λ r. glyphs_of front ++ r) (map glyphs_of rows)
before_pieces front [] = refl
before_pieces front (row ∷ rows) = ap₂ (λ a b. a ∷ b) (glyphs_of-append front row) (before_pieces front rows)

map-same : (f g : ℕ → Glyph) (from many : ℕ) → ((k : ℕ) → from ≤ k → k < from + many → f k ≡ g k)
    → map f (range_with_len from many) ≡ map g (range_with_len from many)
map-same f g from zero h = refl
map-same f g from (suc many) h = rw (h from (omega arith) (omega arith))
    (ap (λ r. g from ∷ r) (map-same f g (from + 1) many (λ k a b. h k (omega arith) (omega arith))))

map-one : (f : ℕ → Glyph) (p : Glyph) (from many : ℕ) → ((k : ℕ) → from ≤ k → k < from + many → f k ≡ p)
    → map f (range_with_len from many) ≡ replicate many p
map-one f p from zero h = refl
map-one f p from (suc many) h = rw (h from (omega arith) (omega arith))
    (ap (λ r. p ∷ r) (map-one f p (from + 1) many (λ k a b. h k (omega arith) (omega arith))))

-- a range in three parts
three : (f : ℕ → Glyph) (from a b c : ℕ) → map f (range_with_len from (a + (b + c))) ≡ map f (range_with_len from a)
    ++ (map f (range_with_len (from + a) b) ++ map f (range_with_len (from + a + b) c))
three f from a b c =
    ap (map f) (range_with_len-append from a (b + c)) ∙ map-append f (range_with_len from a)
    (range_with_len (from + a) (b + c))
    ∙ ap (λ r. map f (range_with_len from a) ++ map f r) (range_with_len-append (from + a) b c)
    ∙ ap (λ r. map f (range_with_len from a) ++ r) (map-append f (range_with_len (from + a) b)
    (range_with_len (from + a + b) c))

mark-before : (s : SnippetSettings) (reached column : ℕ) (ms : List Underline) → AreApart reached ms → column
    < reached → underline_glyph_at s ms column ≡ glyph_of s.width 32
mark-before s reached column [] h lt = refl
mark-before s reached column (m ∷ ms) h lt =
    let no : leb m.from column ≡ false = lt-leb m.from column (omega (arith, h.0)) in
    rw no (mark-before s m.until column ms h.2 (omega (arith, h.0, h.1.0, h.1.1)))

pub underlines_end-ge : (reached : ℕ) (ms : List Underline) → AreApart reached ms → reached ≤ underlines_end reached ms
underlines_end-ge reached [] h = omega arith
underlines_end-ge reached (m ∷ ms) h = omega (arith, h.0, h.1.0, h.1.1, underlines_end-ge m.until ms h.2)

pub glyphs_of-marks : (s : SnippetSettings) (reached : ℕ) (ms : List Underline) → AreApart reached ms →
    glyphs_of (underline_runs s reached ms) ≡ map (underline_glyph_at s ms)
    (range_with_len reached (underlines_end reached ms - reached))
glyphs_of-marks s reached [] h = let z : reached - reached ≡ 0 = omega arith in rw z refl
glyphs_of-marks s reached (m ∷ ms) h =
    let f : ℕ → Glyph = underline_glyph_at s (m ∷ ms) in
    let own : ℕ → Glyph = λ column. glyph_of s.width (underline_code s.theme.characters m column) in
    let end : ℕ = underlines_end m.until ms in
    let ge : m.until ≤ end = underlines_end-ge m.until ms h.2 in
    let a : ℕ = m.from - reached in
    let b : ℕ = m.until - m.from in
    let c : ℕ = end - m.until in
    let from_is : reached + a ≡ m.from = omega (arith, h.0) in
    let until_is : m.from + b ≡ m.until = omega (arith, h.1.0, h.1.1) in
    let whole : end - reached ≡ a + (b + c) = omega (arith, h.0, h.1.0, h.1.1) in
    let gap : map f (range_with_len reached a) ≡ replicate a (glyph_of s.width 32) =
    map-one f (glyph_of s.width 32) reached a (λ k l u.
    let no : leb m.from k ≡ false = lt-leb m.from k (omega (arith, h.0)) in
    rw no (mark-before s m.until k ms h.2 (omega (arith, h.0, h.1.0, h.1.1)))) in
    let mine : map f (range_with_len m.from b) ≡ map own (range_with_len m.from b) = map-same f own m.from b (λ k l u.
    let is : leb m.from k ≡ true = le-leb m.from k l in let is' : ltb k m.until ≡ true =
    lt-ltb k m.until (omega (arith, h.1.0, h.1.1)) in rw (is, is') refl) in
    let rest : map f (range_with_len m.until c) ≡ map (underline_glyph_at s ms) (range_with_len m.until c) =
    map-same f (underline_glyph_at s ms) m.until c (λ k l u.
    let no : (leb m.from k && ltb k m.until) ≡ false = and_right (leb m.from k) (ltb k m.until) (le-ltb k m.until l) in
    rw no refl) in
    sym (ap (λ n. map f (range_with_len reached n)) whole ∙ three f reached a b c
    ∙ ap (λ r. map f (range_with_len reached a) ++ (map f (range_with_len r b) ++ map f (range_with_len (r + b) c)))
    from_is
    ∙ ap (λ r. map f (range_with_len reached a) ++ (map f (range_with_len m.from b) ++ map f (range_with_len r c)))
    until_is
    ∙ ap (λ r. r ++ (map f (range_with_len m.from b) ++ map f (range_with_len m.until c))) gap
    ∙ ap (λ r. replicate a (glyph_of s.width 32) ++ (r ++ map f (range_with_len m.until c))) mine
    ∙ ap (λ r. replicate a (glyph_of s.width 32) ++ (map own (range_with_len m.from b) ++ r))
    (rest ∙ sym (glyphs_of-marks s m.until ms h.2)))

-- anchors one after the other, before a column
abbrev pub AreAnchored : ℕ → List Underline → ℕ → Type 0
AreAnchored reached [] column = reached ≤ column
AreAnchored reached (m ∷ ms) column = (reached ≤ m.pointer) × AreAnchored (m.pointer + 1) ms column

anchored-ge : (reached column : ℕ) (ms : List Underline) → AreAnchored reached ms column → reached ≤ column
anchored-ge reached column [] h = h
anchored-ge reached column (m ∷ ms) h = omega (arith, h.0, anchored-ge (m.pointer + 1) column ms h.1)

lead-before : (s : SnippetSettings) (reached column k : ℕ) (ms : List Underline) → AreAnchored reached ms column
    → k < reached → lead_at s ms k ≡ glyph_of s.width 32
lead-before s reached column k [] h lt = refl
lead-before s reached column k (m ∷ ms) h lt =
    let no : eqb k m.pointer ≡ false = ne_eqb k m.pointer (λ e. omega (arith, h.0, e)) in
    rw no (lead-before s (m.pointer + 1) column k ms h.1 (omega (arith, h.0)))

pub glyphs_of-lead : (s : SnippetSettings) (reached column : ℕ) (ms : List Underline) → AreAnchored reached ms column →
    glyphs_of (connector_runs s reached ms column) ≡ map (lead_at s ms)
    (range_with_len reached (column - reached))
glyphs_of-lead s reached column [] h =
    append-nil (replicate (column - reached) (glyph_of s.width 32))
    ∙ sym (map-one (lead_at s []) (glyph_of s.width 32) reached (column - reached) (λ k l u. refl))
glyphs_of-lead s reached column (m ∷ ms) h =
    let f : ℕ → Glyph = lead_at s (m ∷ ms) in
    let at : ℕ = m.pointer in
    let ge : at + 1 ≤ column = anchored-ge (at + 1) column ms h.1 in
    let a : ℕ = at - reached in
    let c : ℕ = column - (at + 1) in
    let at_is : reached + a ≡ at = omega (arith, h.0) in
    let whole : column - reached ≡ a + (1 + c) = omega (arith, h.0) in
    let gap : map f (range_with_len reached a) ≡ replicate a (glyph_of s.width 32) =
    map-one f (glyph_of s.width 32) reached a (λ k l u.
    let no : eqb k at ≡ false = ne_eqb k at (λ e. omega (arith, h.0, e)) in
    rw no (lead-before s (at + 1) column k ms h.1 (omega (arith, h.0)))) in
    let mine : f at ≡ glyph_of s.width s.theme.characters.vbar = let yes' : eqb at at ≡ true = eq-eqb at at refl in
    rw yes' refl in
    let rest : map f (range_with_len (at + 1) c) ≡ map (lead_at s ms) (range_with_len (at + 1) c) =
    map-same f (lead_at s ms) (at + 1) c (λ k l u.
    let no : eqb k at ≡ false = ne_eqb k at (λ e. omega (arith, e)) in rw no refl) in
    sym (ap (λ n. map f (range_with_len reached n)) whole ∙ three f reached a 1 c
    ∙ ap (λ r. map f (range_with_len reached a) ++ (map f (range_with_len r 1) ++ map f (range_with_len (r + 1) c)))
    at_is
    ∙ ap (λ r. r ++ (map f (range_with_len at 1) ++ map f (range_with_len (at + 1) c))) gap
    ∙ ap (λ p. replicate a (glyph_of s.width 32) ++ ((p ∷ []) ++ map f (range_with_len (at + 1) c))) mine
    ∙ ap (λ r. replicate a (glyph_of s.width 32) ++ (glyph_of s.width s.theme.characters.vbar ∷ r))
    (rest ∙ sym (glyphs_of-lead s (at + 1) column ms h.1)))

-- marks that are apart have anchors one after the other
apart-weaker : (a b : ℕ) (ms : List Underline) → b ≤ a → AreApart a ms → AreApart b ms
apart-weaker a b [] le h = tt
apart-weaker a b (m ∷ ms) le h = (omega (arith, h.0), h.1, h.2)

pub anchored : (reached : ℕ) (earlier : List Underline) (m : Underline) (later : List Underline)
    → AreApart reached (earlier ++ m ∷ later) → AreAnchored reached earlier m.pointer
anchored reached [] m later h = omega (arith, h.0, h.1.0)
anchored reached (e ∷ earlier) m later h = (
  omega (arith, h.0, h.1.0),
  anchored (e.pointer + 1) earlier m later (apart-weaker e.until (e.pointer + 1) (earlier ++ m ∷ later)
      (omega (arith, h.1.1)) h.2),
)

glyphs_of-text : (s : SnippetSettings) (earlier : List Underline) (mark : Underline) (front part : List ℕ)
    → AreAnchored 0 earlier mark.pointer →
    glyphs_of (label_text_row s earlier mark front part) ≡ lead s earlier mark
    ++ map (glyph_of s.width) (front ++ part)
glyphs_of-text s earlier mark front part h =
    let z : mark.pointer - 0 ≡ mark.pointer = omega arith in
    glyphs_of-append (connector_runs s 0 earlier mark.pointer) (styled_run s.width mark.label.style (front ++ part)
    ∷ [])
    ∙ ap (λ r. glyphs_of (connector_runs s 0 earlier mark.pointer) ++ r)
    (append-nil (map (glyph_of s.width) (front ++ part)))
    ∙ ap (λ r. r ++ map (glyph_of s.width) (front ++ part))
    (glyphs_of-lead s 0 mark.pointer earlier h ∙ ap (λ n. map (lead_at s earlier) (range_with_len 0 n)) z)

glyphs_of-rest : (s : SnippetSettings) (earlier : List Underline) (mark : Underline) (parts : List (List ℕ))
    → AreAnchored 0 earlier mark.pointer →
    map glyphs_of (map (label_text_row s earlier mark (beside s.theme.characters)) parts)
    ≡ map (λ p. lead s earlier mark ++ (beside_pieces s ++ map (glyph_of s.width) p)) parts
glyphs_of-rest s earlier mark [] h = refl
glyphs_of-rest s earlier mark (part ∷ parts) h = ap (λ r. r
    ∷ map glyphs_of (map (label_text_row s earlier mark (beside s.theme.characters)) parts))
    (glyphs_of-text s earlier mark (beside s.theme.characters) part h) ∙ ap (λ r.
    (lead s earlier mark ++ (beside_pieces s ++ map (glyph_of s.width) part)) ∷ r)
    (glyphs_of-rest s earlier mark parts h)

glyphs_of-parts : (s : SnippetSettings) (earlier : List Underline) (mark : Underline) (parts : List (List ℕ))
    → AreAnchored 0 earlier mark.pointer →
    map glyphs_of (rows_of_parts s earlier mark parts) ≡ glyph_rows_of_parts s earlier mark parts
glyphs_of-parts s earlier mark [] h = refl
glyphs_of-parts s earlier mark (part ∷ []) h =
    ap (λ r. r ∷ []) (glyphs_of-text s earlier mark (corner s.theme.characters) part h)
glyphs_of-parts s earlier mark (part ∷ next ∷ parts) h =
    ap (λ r. r ∷ map glyphs_of (map (label_text_row s earlier mark (beside s.theme.characters)) (next ∷ parts)))
    (glyphs_of-text s earlier mark (corner_of_several s.theme.characters) part h)
    ∙ ap (λ r. (lead s earlier mark ++ (corner_pieces s s.theme.characters.rcross ++ map (glyph_of s.width) part)) ∷ r)
    (glyphs_of-rest s earlier mark (next ∷ parts) h)

pub glyphs_of-below : (s : SnippetSettings) (earlier ms : List Underline) → AreApart 0 (earlier ++ ms)
    → map glyphs_of (label_text_rows s earlier ms) ≡ glyph_rows_below s earlier ms
glyphs_of-below s earlier [] h = refl
glyphs_of-below s earlier (m ∷ ms) h =
    map-append glyphs_of (label_text_rows s (earlier ++ m ∷ []) ms) (rows_of_parts s earlier m m.label.parts)
    ∙ ap (λ r. r ++ map glyphs_of (rows_of_parts s earlier m m.label.parts))
    (glyphs_of-below s (earlier ++ m ∷ []) ms (subst (λ (xs : List Underline). AreApart 0 xs)
    (sym (append_assoc earlier (m ∷ []) ms)) h))
    ∙ ap (λ r. glyph_rows_below s (earlier ++ m ∷ []) ms ++ r)
    (glyphs_of-parts s earlier m m.label.parts (anchored 0 earlier m ms h))
