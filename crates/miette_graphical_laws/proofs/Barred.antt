-- Rows after bars: which have room on each level, and that they stand after all bars at once.
use Rattle.std.proofs.Common.{◌≡◌, ℕ, ◌+◌, ◌-◌, ◌≤◌, Bool, true, false, not, ◌&&◌, List, [], ◌∷◌, ◌++◌, refl, sym}
use Rattle.std.proofs.Common.{ap, ap₂, ◌∙◌, append_assoc, append-nil, arith, if◌then◌else◌}
use Rattle.std.proofs.lemmas.Bool.{and_parts}
use Rattle.std.proofs.lemmas.Bool.Decides.{nat_tests}
use Rattle.std.proofs.lemmas.List.Sums.{sum_by-append, sum_by-cons}
use Rattle.std.proofs.Math.Bool.{and-false, and_assoc}
use Rattle.std.specs.List.{AllByRecursion}
use Rattle.miette_style.specs.declared.style.Style.{Style}
use Rattle.miette_style.specs.rules.Codes.{colour_start, colour_stop, style_codes}
use Rattle.miette_style.specs.rules.Escapes.{is_escape}
use Rattle.miette_runs.specs.rules.Cells.{printed_columns, token_width}
use Rattle.miette_runs.specs.rules.Colours.{is_colour, is_colour_end}
use Rattle.miette_runs.specs.rules.Runs.{Styled, print, printed_run}
use Rattle.miette_runs.specs.rules.Sequences.{Token, Character, Sequence, is_line_feed, spell, tokens}
use Rattle.miette_runs.proofs.Parameters.{start_colour}
use Rattle.miette_runs.proofs.Tokens.{nil_of, spell-tokens}
use Rattle.miette_text.specs.laws.Tame.{Free, IsTame, tame_after}
use Rattle.miette_text.specs.rules.Wrapping.{is_space, only_spaces, trimmed_row}
use Rattle.miette_text.proofs.Erasing.{append-tame, tokens-append}
use Rattle.miette_text.proofs.Parsing.{tokens-spell}
use Rattle.miette_text.proofs.Printing.{print-tame}
use Rattle.miette_text.proofs.TameResults.{alive, run-trimmed}
use Rattle.miette_graphical_rules.specs.laws.CharacterSets.{AreShipped}
use Rattle.miette_graphical_rules.specs.rules.Indents.{stem_indent}
use Rattle.miette_graphical_rules.specs.rules.GraphicalSettings.{GraphicalSettings, severity_style}
use Rattle.miette_graphical_laws.specs.laws.FittingRows.{FitsRow, bare_row, fed_rows, is_row}
use Rattle.miette_graphical_rules.specs.laws.HeldRows.{Arrow}
use Rattle.miette_graphical_laws.specs.laws.Levels.{FitLevels, HasPlainBars, HaveRoom, IsShownRow, StandAfterBars, bar}
use Rattle.miette_graphical_laws.specs.laws.Levels.{barred, barred_rows, bars, settings_after, settings_under}
use Rattle.miette_graphical_laws.proofs.Levels.{barred-fed}
use Rattle.miette_graphical_laws.proofs.Themes.{shipped}

-- ---- rows without their last spaces

bare-tame : (row : List ℕ) → IsTame row → tame_after Free (trimmed_row (tokens row)) ≡ Free
bare-tame row h = run-trimmed Free (tokens row) (ap alive h) ∙ h

bare-tokens : (row : List ℕ) → IsTame row → tokens (bare_row row) ≡ trimmed_row (tokens row)
bare-tokens row h = tokens-spell Free (trimmed_row (tokens row)) (bare-tame row h)

bare-is-tame : (row : List ℕ) → IsTame row → IsTame (bare_row row)
bare-is-tame row h = ap (tame_after Free) (bare-tokens row h) ∙ bare-tame row h

trimmed-columns : (ts : List Token) → printed_columns (trimmed_row ts) ≤ printed_columns ts
trimmed-columns [] = omega arith
trimmed-columns (Sequence s ∷ ts) = omega (
  arith,
  sum_by-cons token_width (Sequence s) ts,
  sum_by-cons token_width (Sequence s) (trimmed_row ts),
  trimmed-columns ts,
)
trimmed-columns (Character c ∷ ts) =
    elim (is_space c && only_spaces ts) as (λ (b : Bool). printed_columns
    (if b then trimmed_row ts else Character c ∷ trimmed_row ts) ≤ printed_columns (Character c ∷ ts)) [
      | true ↦ omega (arith, sum_by-cons token_width (Character c) ts, trimmed-columns ts)
      | false ↦ omega (
        arith,
        sum_by-cons token_width (Character c) ts,
        sum_by-cons token_width (Character c) (trimmed_row ts),
        trimmed-columns ts,
      )
    ]

-- ---- no line feeds

row-append : (x y : List ℕ) → is_row (x ++ y) ≡ (is_row x && is_row y)
row-append [] y = refl
row-append (c ∷ x) y = ap (λ b. not (is_line_feed c) && b) (row-append x y)
    ∙ sym (and_assoc (not (is_line_feed c)) (is_row x) (is_row y))

rows-joined : (x y : List ℕ) → is_row x ≡ true → is_row y ≡ true → is_row (x ++ y) ≡ true
rows-joined x y h k = row-append x y ∙ ap₂ (λ a b. a && b) h k

trimmed-is-row : (ts : List Token) → is_row (spell ts) ≡ true → is_row (spell (trimmed_row ts)) ≡ true
trimmed-is-row [] h = h
trimmed-is-row (Sequence s ∷ ts) h =
    let p = and_parts (is_row s) (is_row (spell ts)) (sym (row-append s (spell ts)) ∙ h) in
    rows-joined s (spell (trimmed_row ts)) p.0 (trimmed-is-row ts p.1)
trimmed-is-row (Character c ∷ ts) h =
    let p = and_parts (not (is_line_feed c)) (is_row (spell ts)) h in
    elim (is_space c && only_spaces ts) as (λ (b : Bool). is_row
    (spell (if b then trimmed_row ts else Character c ∷ trimmed_row ts)) ≡ true) [
      | true ↦ trimmed-is-row ts p.1
      | false ↦ ap₂ (λ a b. a && b) p.0 (trimmed-is-row ts p.1)
    ]

bare-is-row : (row : List ℕ) → is_row row ≡ true → is_row (bare_row row) ≡ true
bare-is-row row h = trimmed-is-row (tokens row) (ap is_row (spell-tokens row) ∙ h)

colour_end-row : (s : List ℕ) → is_colour_end s ≡ true → is_row s ≡ true
colour_end-row [] h = refl
colour_end-row (c ∷ s) h = grind (arith, nat_tests, nil_of s, colour_end-row s)

colour-row : (s : List ℕ) → is_colour s ≡ true → is_row s ≡ true
colour-row [] h = refl
colour-row (c ∷ []) h = absurd (grind (arith, nat_tests))
colour-row (c ∷ d ∷ s) h = grind (arith, nat_tests, colour_end-row s)

run-row : (style : Style) (c : ℕ) (text : List ℕ) → is_row (c ∷ text) ≡ true
    → is_row (print (Styled style (c ∷ text) ∷ [])) ≡ true
run-row style c text h =
    ap is_row (append-nil (printed_run style (c ∷ text)))
    ∙ elim (style_codes style) as (λ codes. is_row (elim codes as (λ _. List ℕ) [
      | [] ↦ c ∷ text
      | x ∷ xs ↦ colour_start style ++ (c ∷ text) ++ colour_stop
    ]) ≡ true) [
      | [] ↦ h
      | x ∷ xs ↦ rows-joined (colour_start style ++ (c ∷ text)) colour_stop
          (rows-joined (colour_start style) (c ∷ text) (colour-row (colour_start style) (start_colour style)) h) refl
    ]

-- ---- a bar

bar-row : (s : GraphicalSettings) (arrow : Arrow) → HasPlainBars s → is_row (bar s arrow) ≡ true
bar-row s arrow h =
    let style = severity_style s arrow.outer in
    elim arrow.is_last as (λ b. is_row (print (stem_indent s arrow.outer b)) ≡ true) [
      | true ↦ run-row style 32 (32 ∷ 32 ∷ 32 ∷ 32 ∷ 32 ∷ []) refl
      | false ↦ run-row style 32 (32 ∷ s.theme.characters.vbar ∷ 32 ∷ 32 ∷ 32 ∷ []) h.0
    ]

bar-tame : (s : GraphicalSettings) (arrow : Arrow) → HasPlainBars s → IsTame (bar s arrow)
bar-tame s arrow h = elim arrow.is_last as (λ b. IsTame (print (stem_indent s arrow.outer b))) [
  | true ↦ print-tame (stem_indent s arrow.outer true) (refl, tt)
  | false ↦ print-tame (stem_indent s arrow.outer false) (ap (λ b. not b && true) h.1, tt)
]

-- ---- which rows have room

wider : (room more : ℕ) (rows : List (List ℕ)) → room ≤ more → AllByRecursion (FitsRow room) rows
    → AllByRecursion (FitsRow more) rows
wider room more [] h fit = tt
wider room more (row ∷ rows) h fit =
    let own : printed_columns (tokens row) ≤ room = fit.0.1 in
    ((fit.0.0, omega (arith, h, own)), wider room more rows h fit.1)

barred-fits : (indent : List ℕ) (room all : ℕ) (rows : List (List ℕ)) → is_row indent ≡ true → IsTame indent
    → printed_columns (tokens indent) + room ≤ all → AllByRecursion IsTame rows → AllByRecursion (FitsRow room) rows
    → AllByRecursion (FitsRow all) (barred indent rows)
barred-fits indent room all [] n t h tame fit = tt
barred-fits indent room all (row ∷ rows) n t h tame fit =
    let bare = trimmed_row (tokens row) in
    let parts : tokens (indent ++ bare_row row) ≡ tokens indent ++ bare =
    tokens-append indent (bare_row row) t (bare-is-tame row tame.0)
    ∙ ap (λ ts. tokens indent ++ ts) (bare-tokens row tame.0) in
    let columns : printed_columns (tokens (indent ++ bare_row row)) ≡ printed_columns (tokens indent)
    + printed_columns bare =
    ap printed_columns parts ∙ sum_by-append token_width (tokens indent) bare in
    let own : printed_columns (tokens row) ≤ room = fit.0.1 in (
      (
        rows-joined indent (bare_row row) n (bare-is-row row fit.0.0),
        omega (arith, columns, trimmed-columns (tokens row), own, h),
      ),
      barred-fits indent room all rows n t h tame.1 fit.1,
    )

barred-tame : (indent : List ℕ) (rows : List (List ℕ)) → IsTame indent → AllByRecursion IsTame rows
    → AllByRecursion IsTame (barred indent rows)
barred-tame indent [] t tame = tt
barred-tame indent (row ∷ rows) t tame = (
  append-tame indent (bare_row row) t (bare-is-tame row tame.0),
  barred-tame indent rows t tame.1,
)

-- rows that have room on each level, as they stand on the outermost one
pub record HasLevels (s : GraphicalSettings) (arrows : List Arrow) (rows : List (List ℕ)) : Type 0 where
  pub wide : 2 ≤ s.width
  pub tame : AllByRecursion IsTame (barred_rows s arrows rows)
  pub fit : AllByRecursion (FitsRow (s.width - 2)) (barred_rows s arrows rows)
  pub levels : FitLevels s arrows rows

have-levels : (s : GraphicalSettings) (arrows : List Arrow) (rows : List (List ℕ)) → HasPlainBars s
    → 2 ≤ (settings_under s arrows).width → AllByRecursion IsTame rows
    → AllByRecursion (FitsRow ((settings_under s arrows).width - 2)) rows → HasLevels s arrows rows
have-levels s [] rows h w tame fit = record { wide = w; tame = tame; fit = fit; levels = tt }
have-levels s (arrow ∷ arrows) rows h w tame fit =
    let n = settings_after s arrow in
    let indent = bar s arrow in
    let own = have-levels n arrows rows h w tame fit in
    let taken : n.width ≡ s.width - printed_columns (tokens indent) = refl in
    let room : n.width - 2 ≤ s.width - 2 - printed_columns (tokens indent) = omega (arith, taken) in
    record {
      wide = omega (arith, own.wide, taken);
      tame = barred-tame indent (barred_rows n arrows rows) (bar-tame s arrow h) own.tame;
      fit = barred-fits indent (n.width - 2) (s.width - 2) (barred_rows n arrows rows) (bar-row s arrow h)
          (bar-tame s arrow h) (omega (arith, own.wide, taken)) own.tame own.fit;
      levels = (
        own.levels,
        wider (n.width - 2) (s.width - 2 - printed_columns (tokens indent)) (barred_rows n arrows rows) room own.fit,
      );
    }

pub have-room : (s : GraphicalSettings) (arrows : List Arrow) (rows : List (List ℕ)) → HasPlainBars s
    → HaveRoom s arrows rows
have-room s arrows rows h w tame fit = (have-levels s arrows rows h w tame fit).levels

-- ---- how they stand

spaces-after : (us vs : List Token) → only_spaces vs ≡ false → only_spaces (us ++ vs) ≡ false
spaces-after [] vs h = h
spaces-after (Sequence s ∷ us) vs h = spaces-after us vs h
spaces-after (Character c ∷ us) vs h = ap (λ b. is_space c && b) (spaces-after us vs h) ∙ and-false (is_space c)

trimmed-after : (us vs : List Token) → only_spaces vs ≡ false → trimmed_row (us ++ vs) ≡ us ++ trimmed_row vs
trimmed-after [] vs h = refl
trimmed-after (Sequence s ∷ us) vs h = ap (λ ts. Sequence s ∷ ts) (trimmed-after us vs h)
trimmed-after (Character c ∷ us) vs h =
    ap (λ (b : Bool). if is_space c && b then trimmed_row (us ++ vs) else Character c ∷ trimmed_row (us ++ vs))
    (spaces-after us vs h)
    ∙ ap (λ (b : Bool). if b then trimmed_row (us ++ vs) else Character c ∷ trimmed_row (us ++ vs))
    (and-false (is_space c))
    ∙ ap (λ ts. Character c ∷ ts) (trimmed-after us vs h)

trimmed-spaces : (ts : List Token) → only_spaces (trimmed_row ts) ≡ only_spaces ts
trimmed-spaces [] = refl
trimmed-spaces (Sequence s ∷ ts) = trimmed-spaces ts
trimmed-spaces (Character c ∷ ts) =
    elim (is_space c && only_spaces ts) as (λ (b : Bool). (is_space c && only_spaces ts) ≡ b
    → only_spaces (if b then trimmed_row ts else Character c ∷ trimmed_row ts) ≡ b) [
      | true ↦ λ e. trimmed-spaces ts ∙ (and_parts (is_space c) (only_spaces ts) e).1
      | false ↦ λ e. ap (λ b. is_space c && b) (trimmed-spaces ts) ∙ e
    ] refl

trimmed-twice : (ts : List Token) → trimmed_row (trimmed_row ts) ≡ trimmed_row ts
trimmed-twice [] = refl
trimmed-twice (Sequence s ∷ ts) = ap (λ us. Sequence s ∷ us) (trimmed-twice ts)
trimmed-twice (Character c ∷ ts) =
    elim (is_space c && only_spaces ts) as (λ (b : Bool). (is_space c && only_spaces ts) ≡ b
    → trimmed_row (if b then trimmed_row ts else Character c ∷ trimmed_row ts)
    ≡ (if b then trimmed_row ts else Character c ∷ trimmed_row ts)) [
      | true ↦ λ e. trimmed-twice ts
      | false ↦ λ e. ap (λ (b : Bool). if b then trimmed_row (trimmed_row ts) else Character c
          ∷ trimmed_row (trimmed_row ts)) (ap (λ b. is_space c && b) (trimmed-spaces ts) ∙ e)
          ∙ ap (λ us. Character c ∷ us) (trimmed-twice ts)
    ] refl

-- a row that ends with no space
pub record EndsShown (row : List ℕ) : Type 0 where
  pub tame : IsTame row
  pub bare : trimmed_row (tokens row) ≡ tokens row
  pub shown : only_spaces (tokens row) ≡ false

bare-same : (row : List ℕ) → EndsShown row → bare_row row ≡ row
bare-same row h = ap spell h.bare ∙ spell-tokens row

bare-ends : (row : List ℕ) → IsShownRow row → EndsShown (bare_row row)
bare-ends row h =
    let own = bare-tokens row h.0 in
    record {
      tame = bare-is-tame row h.0;
      bare = ap trimmed_row own ∙ trimmed-twice (tokens row) ∙ sym own;
      shown = ap only_spaces own ∙ trimmed-spaces (tokens row) ∙ h.1;
    }

after-ends : (indent row : List ℕ) → IsTame indent → EndsShown row → EndsShown (indent ++ row)
after-ends indent row t h =
    let own = tokens-append indent row t h.tame in
    record {
      tame = append-tame indent row t h.tame;
      bare = ap trimmed_row own ∙ trimmed-after (tokens indent) (tokens row) h.shown
          ∙ ap (λ ts. tokens indent ++ ts) h.bare ∙ sym own;
      shown = ap only_spaces own ∙ spaces-after (tokens indent) (tokens row) h.shown;
    }

bars-tame : (s : GraphicalSettings) (arrows : List Arrow) → HasPlainBars s → IsTame (bars s arrows)
bars-tame s [] h = refl
bars-tame s (arrow ∷ arrows) h =
    append-tame (bar s arrow) (bars (settings_after s arrow) arrows) (bar-tame s arrow h)
    (bars-tame (settings_after s arrow) arrows h)

barred-again : (indent inner : List ℕ) (rows : List (List ℕ)) → IsTame inner → AllByRecursion IsShownRow rows
    → barred indent (barred inner rows) ≡ barred (indent ++ inner) rows
barred-again indent inner [] t h = refl
barred-again indent inner (row ∷ rows) t h =
    ap₂ (λ x xs. x ∷ xs) (ap (λ x. indent ++ x) (bare-same (inner ++ bare_row row)
    (after-ends inner (bare_row row) t (bare-ends row h.0))) ∙ sym (append_assoc indent inner (bare_row row)))
    (barred-again indent inner rows t h.1)

pub barred-bars : (s : GraphicalSettings) (arrow : Arrow) (arrows : List Arrow) (rows : List (List ℕ)) → HasPlainBars s
    → AllByRecursion IsShownRow rows → barred_rows s (arrow ∷ arrows) rows ≡ barred (bars s (arrow ∷ arrows)) rows
barred-bars s arrow [] rows p h = ap (λ b. barred b rows) (sym (append-nil (bar s arrow)))
barred-bars s arrow (next ∷ arrows) rows p h =
    let n = settings_after s arrow in
    ap (barred (bar s arrow)) (barred-bars n next arrows rows p h)
    ∙ barred-again (bar s arrow) (bars n (next ∷ arrows)) rows (bars-tame n (next ∷ arrows) p) h

pub stand-after : (s : GraphicalSettings) (arrows : List Arrow) (rows : List (List ℕ)) → HasPlainBars s
    → StandAfterBars s arrows rows
stand-after s arrows rows p h arrow =
    ap fed_rows (barred-bars s arrow arrows rows p h) ∙ sym (barred-fed (bars s (arrow ∷ arrows)) rows)

pub shipped-bars : (s : GraphicalSettings) → AreShipped s.theme.characters → HasPlainBars s
shipped-bars s h = (
  shipped s.theme.characters h (λ c. is_row (c.vbar ∷ [])) true refl refl refl,
  shipped s.theme.characters h (λ c. is_escape c.vbar) false refl refl refl,
)
