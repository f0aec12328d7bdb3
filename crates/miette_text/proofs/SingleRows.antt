-- Texts that stand in one row as they are.
use Rattle.std.proofs.Common.{◌≡◌, ℕ, ◌+◌, ◌-◌, ◌<◌, ◌≤◌, Bool, true, false, not, ◌&&◌, ◌||◌, nat_le, List, [], ◌∷◌}
use Rattle.std.proofs.Common.{◌++◌, map, flat_map, refl, sym, ap, ap₂, ◌∙◌, if◌then◌else◌, arith, append-nil}
use Rattle.std.proofs.lemmas.Bool.{and_parts, not-true}
use Rattle.std.proofs.lemmas.Bool.Decides.{nat_tests}
use Rattle.std.proofs.lemmas.List.Sums.{sum_by-append}
use Rattle.std.proofs.Math.Bool.{and-false}
use Rattle.std.specs.Char.{is_whitespace}
use Rattle.miette_style.specs.rules.Escapes.{is_escape, no_escape}
use Rattle.miette_runs.specs.rules.Sequences.{Token, Character, tokens, spell, is_line_feed, are_canonical}
use Rattle.miette_text.specs.laws.FilledRows.{Fits, IsFilled}
use Rattle.miette_text.specs.rules.Wrapping.{Cuts, TextLine, WrapPlan, Word, all_white, cell_tokens, columns}
use Rattle.miette_text.specs.rules.Wrapping.{cut_words}
use Rattle.miette_text.specs.rules.Wrapping.{cuts_of, filled_text, first_room, further_room, is_space}
use Rattle.miette_text.specs.rules.Wrapping.{joined_rows}
use Rattle.miette_text.specs.rules.Wrapping.{map_indents, on_first, only_spaces, text_line_rows, text_lines}
use Rattle.miette_text.specs.rules.Wrapping.{tokens_of_words}
use Rattle.miette_text.specs.rules.Wrapping.{rows, text_rows, trimmed_row, whole_lines, with_code, with_rest}
use Rattle.miette_text.specs.rules.Wrapping.{word_cells, wrapped_text}
use Rattle.miette_runs.specs.rules.Cells.{TaggedChar, printed_columns, width}
use Rattle.miette_text.specs.steps.Ends.{codes_of, row_cells}
use Rattle.miette_runs.specs.steps.Cells.{code_columns, bare_cells}
use Rattle.miette_text.specs.rules.Fitting.{ends_bare, fits, has_ink, is_line}
use Rattle.miette_text.specs.steps.Fitting.{fits_row, is_shown}
use Rattle.miette_text.proofs.KeptCells.{cut_words-flat}
use Rattle.miette_text.proofs.FirstRow.{columns-codes}
use Rattle.miette_runs.proofs.Growing.{spell-characters}
use Rattle.miette_runs.proofs.Appending.{spell-append}
use Rattle.miette_runs.proofs.SettledRuns.{tokens-plain}
use Rattle.miette_text.proofs.Unique.{only_rows}

-- ---- a line is one piece

abbrev line_piece : List ℕ → TextLine
line_piece cs = record { cells = bare_cells cs; rest = [] }

no_escape-line : (cs : List ℕ) → is_line cs ≡ true → no_escape cs ≡ true
no_escape-line [] h = refl
no_escape-line (c ∷ cs) h = grind (arith, nat_tests, no_escape-line cs)

pieces-line : (cs : List ℕ) → is_line cs ≡ true → text_lines (map Character cs) ≡ line_piece cs ∷ []
pieces-line [] h = refl
pieces-line (c ∷ cs) h =
    let p = and_parts (not (is_escape c || is_line_feed c)) (is_line cs) h in
    let f : is_line_feed c ≡ false = grind (arith, nat_tests) in
    ap (λ (b : Bool). if b then record { cells = []; rest = [] } ∷ text_lines (map Character cs)
    else on_first (with_code c) (text_lines (map Character cs))) f
    ∙ ap (on_first (with_code c)) (pieces-line cs p.1)

text-line : (cs : List ℕ) → is_line cs ≡ true → text_lines (tokens cs) ≡ line_piece cs ∷ []
text-line cs h = ap text_lines (tokens-plain cs (no_escape-line cs h)) ∙ pieces-line cs h

codes-plain : (cs : List ℕ) → codes_of (bare_cells cs) ≡ cs
codes-plain [] = refl
codes-plain (c ∷ cs) = ap (λ us. c ∷ us) (codes-plain cs)

tokens-bare_cells : (cs : List ℕ) → flat_map cell_tokens (bare_cells cs) ≡ map Character cs
tokens-bare_cells [] = refl
tokens-bare_cells (c ∷ cs) = ap (λ us. Character c ∷ us) (tokens-bare_cells cs)

-- ---- words that fit one row

columns-cells : (us vs : List TaggedChar) → columns (us ++ vs) ≡ columns us + columns vs
columns-cells us vs = sum_by-append (λ (c : TaggedChar). width c.code) us vs

fits-within : (room used : ℕ) (ws : List Word) → used + columns (row_cells ws) ≤ room → Fits room used ws
fits-within room used [] h = tt
fits-within room used (w ∷ ws) h =
    let e : columns (row_cells (w ∷ ws)) ≡ columns (word_cells w) + columns (row_cells ws) =
    columns-cells (word_cells w) (row_cells ws) in
    let f : columns (word_cells w) ≡ columns w.letters + columns w.spaces = columns-cells w.letters w.spaces in
    (omega arith, fits-within room (used + columns (word_cells w)) ws (omega arith))

is_filled-row : (room further : ℕ) (ws : List Word) → columns (row_cells ws) ≤ room → IsFilled room further (ws ∷ [])
is_filled-row room further [] h = tt
is_filled-row room further (w ∷ ws) h =
    (fits-within room (columns (word_cells w)) ws (omega (arith, columns-cells (word_cells w) (row_cells ws))), tt)

one-row : (room further : ℕ) (ws : List Word) → columns (row_cells ws) ≤ room → rows room further ws ≡ ws ∷ []
one-row room further ws h =
    sym (only_rows room further (ws ∷ []) (is_filled-row room further ws h) ∙ ap (rows room further) (append-nil ws))

-- ---- what ends with no space is not trimmed

bare-spaces : (bare : Bool) (cs : List ℕ) → ends_bare bare cs ≡ true → only_spaces (map Character cs) ≡ true → bare
    ≡ true
bare-spaces bare [] h k = h
bare-spaces bare (c ∷ cs) h k =
    let p = and_parts (is_space c) (only_spaces (map Character cs)) k in
    let n : not (is_space c) ≡ true = bare-spaces (not (is_space c)) cs h p.1 in
    absurd (cc)

trimmed-bare : (bare : Bool) (cs : List ℕ) → ends_bare bare cs ≡ true → trimmed_row (map Character cs)
    ≡ map Character cs
trimmed-bare bare [] h = refl
trimmed-bare bare (c ∷ cs) h =
    let ts = map Character cs in
    let rest : trimmed_row ts ≡ ts = trimmed-bare (not (is_space c)) cs h in
    elim (is_space c && only_spaces ts) as (λ b. (is_space c && only_spaces ts) ≡ b
    → (if b then trimmed_row ts else Character c ∷ trimmed_row ts) ≡ Character c ∷ ts) [
      | true ↦ λ e.
          let p = and_parts (is_space c) (only_spaces ts) e in
          let n : not (is_space c) ≡ true = bare-spaces (not (is_space c)) cs h p.1 in
          absurd (cc)
      | false ↦ λ e. ap (λ us. Character c ∷ us) rest
    ] refl

row-bare : (c : Cuts) (cs : List ℕ) → ends_bare true cs ≡ true → tokens_of_words (cut_words c (bare_cells cs))
    ≡ map Character cs
row-bare c cs h =
    ap (λ us. trimmed_row (flat_map cell_tokens us)) (cut_words-flat c (bare_cells cs))
    ∙ ap trimmed_row (tokens-bare_cells cs)
    ∙ trimmed-bare true cs h

columns-cut : (c : Cuts) (cs : List ℕ) → columns (row_cells (cut_words c (bare_cells cs))) ≡ code_columns cs
columns-cut c cs = ap columns (cut_words-flat c (bare_cells cs)) ∙ columns-codes (bare_cells cs)
    ∙ ap code_columns (codes-plain cs)

rows-line : (c : Cuts) (room further : ℕ) (cs : List ℕ) → ends_bare true cs ≡ true → code_columns cs ≤ room
    → text_line_rows c room further (line_piece cs) ≡ map Character cs ∷ []
rows-line c room further cs h k =
    ap (λ rs. with_rest [] (map tokens_of_words rs)) (one-row room further (cut_words c (bare_cells cs))
    (omega (arith, columns-cut c cs)))
    ∙ ap (λ us. us ∷ []) (append-nil (tokens_of_words (cut_words c (bare_cells cs))) ∙ row-bare c cs h)

spell-row : (first : List Token) (cs : List ℕ) → spell (first ++ map Character cs) ≡ spell first ++ cs
spell-row first cs = spell-append first (map Character cs) ∙ ap (λ us. spell first ++ us) (spell-characters cs)

filled-line : (p : WrapPlan (List Token)) (ts : List Token) (cs : List ℕ) → text_lines ts ≡ line_piece cs ∷ []
    → ends_bare true cs ≡ true → code_columns cs ≤ first_room p → spell (filled_text p ts) ≡ spell p.first ++ cs
filled-line p ts cs e h k =
    ap (λ ps. spell (joined_rows p.first p.further (text_rows (cuts_of p) (first_room p) (further_room p) ps))) e
    ∙ ap (λ rs. spell (joined_rows p.first p.further (rs ++ [])))
    (rows-line (cuts_of p) (first_room p) (further_room p) cs h k)
    ∙ spell-row p.first cs

-- ---- without wrapping

whole-line : (first further : List Token) (ts : List Token) (cs : List ℕ) → text_lines ts ≡ line_piece cs ∷ []
    → all_white (bare_cells cs) ≡ false → spell (whole_lines first further (text_lines ts)) ≡ spell first ++ cs
whole-line first further ts [] e h = absurd (cc)
whole-line first further ts (c ∷ cs) e h =
    ap (λ ps. spell (whole_lines first further ps)) e
    ∙ ap (λ (b : Bool). spell ((if b then trimmed_row first else first)
    ++ (flat_map cell_tokens (bare_cells (c ∷ cs)) ++ []))) h
    ∙ ap (λ us. spell (first ++ us)) (append-nil (flat_map cell_tokens (bare_cells (c ∷ cs)))
    ∙ tokens-bare_cells (c ∷ cs))
    ∙ spell-row first (c ∷ cs)

-- ---- both, under an indent that reads as these tokens

pub wrapped-row : (p : WrapPlan (List ℕ)) (first : List Token) (room : ℕ) (cs : List ℕ) → p.wrap_lines ≡ true → p.first
    ≡ spell first → tokens (spell first) ≡ first → room ≡ p.room - printed_columns first → fits_row room cs ≡ true →
    wrapped_text p cs ≡ spell first ++ cs
wrapped-row p first room cs w i t r h =
    let q = and_parts (is_line cs) (ends_bare true cs && nat_le (code_columns cs) room) h in
    let s = and_parts (ends_bare true cs) (nat_le (code_columns cs) room) q.1 in
    let under : tokens p.first ≡ first = ap tokens i ∙ t in
    let k : code_columns cs ≤ room = grind (arith, nat_tests) in
    let e : room ≡ first_room (map_indents tokens p) = r ∙ ap (λ us. p.room - printed_columns us) (sym under) in
    ap (λ (b : Bool). spell (if b then filled_text (map_indents tokens p) (tokens cs)
    else whole_lines (tokens p.first) (tokens p.further) (text_lines (tokens cs)))) w
    ∙ filled-line (map_indents tokens p) (tokens cs) cs (text-line cs q.0) s.0 (omega arith)
    ∙ ap (λ us. spell us ++ cs) under

ink-white : (cs : List ℕ) → has_ink cs ≡ not (all_white (bare_cells cs))
ink-white [] = refl
ink-white (c ∷ cs) = ap (λ b. not (is_whitespace c) || b) (ink-white cs)
    ∙ either (is_whitespace c) (all_white (bare_cells cs))
  where
    either : (a b : Bool) → (not a || not b) ≡ not (a && b)
    either true b = refl
    either false b = refl

pub wrapped-shown : (p : WrapPlan (List ℕ)) (first : List Token) (cs : List ℕ) → p.wrap_lines ≡ false → p.first
    ≡ spell first
    → tokens (spell first) ≡ first → is_shown cs ≡ true →
    wrapped_text p cs ≡ spell first ++ cs
wrapped-shown p first cs w i t h =
    let q = and_parts (is_line cs) (has_ink cs) h in
    let under : tokens p.first ≡ first = ap tokens i ∙ t in
    let k : all_white (bare_cells cs) ≡ false = not-true (all_white (bare_cells cs)) (sym (ink-white cs) ∙ q.1) in
    ap (λ (b : Bool). spell (if b then filled_text (map_indents tokens p) (tokens cs)
    else whole_lines (tokens p.first) (tokens p.further) (text_lines (tokens cs)))) w
    ∙ whole-line (tokens p.first) (tokens p.further) (tokens cs) cs (text-line cs q.0) k
    ∙ ap (λ us. spell us ++ cs) under

-- ---- and when the answer is that they do

pub fits-none : (wrap_lines : Bool) (room : ℕ) (first : List Token) (cs : List ℕ) → are_canonical first ≡ false → false
    ≡ fits wrap_lines room first cs
fits-none wrap_lines room first cs h =
    sym (ap (λ b. b && (is_line cs && (if wrap_lines then ends_bare true cs
    && nat_le (printed_columns first + code_columns cs) room else has_ink cs))) h)

pub fits-shown : (wrap_lines : Bool) (room : ℕ) (first : List Token) (cs : List ℕ) → are_canonical first ≡ true
    → wrap_lines ≡ false
    → is_shown cs ≡ fits wrap_lines room first cs
fits-shown wrap_lines room first cs h w =
    sym (ap₂ (λ a b. a && (is_line cs && (if b then ends_bare true cs
    && nat_le (printed_columns first + code_columns cs) room else has_ink cs))) h w)

-- a row that is filled, with what is said of its room
fits-filled : (wrap_lines : Bool) (room : ℕ) (first : List Token) (cs : List ℕ) (b : Bool) → are_canonical first ≡ true
    → wrap_lines
    ≡ true → b ≡ nat_le (printed_columns first + code_columns cs) room →
    (is_line cs && (ends_bare true cs && b)) ≡ fits wrap_lines room first cs
fits-filled wrap_lines room first cs b h w e =
    ap (λ x. is_line cs && (ends_bare true cs && x)) e
    ∙ sym (ap₂ (λ a b. a && (is_line cs && (if b then ends_bare true cs
    && nat_le (printed_columns first + code_columns cs) room else has_ink cs))) h w)

pub fits-row : (wrap_lines : Bool) (room left : ℕ) (first : List Token) (cs : List ℕ) → are_canonical first ≡ true
    → wrap_lines
    ≡ true → printed_columns first ≤ room → left ≡ room - printed_columns first →
    fits_row left cs ≡ fits wrap_lines room first cs
fits-row wrap_lines room left first cs h w k e =
    let same : nat_le (code_columns cs) left ≡ nat_le (printed_columns first + code_columns cs) room =
    grind (arith, nat_tests) in
    fits-filled wrap_lines room first cs (nat_le (code_columns cs) left) h w same

pub fits-no_room : (wrap_lines : Bool) (room : ℕ) (first : List Token) (cs : List ℕ) → are_canonical first ≡ true
    → wrap_lines
    ≡ true → room < printed_columns first → false ≡ fits wrap_lines room first cs
fits-no_room wrap_lines room first cs h w k =
    let none : false ≡ nat_le (printed_columns first + code_columns cs) room = grind (arith, nat_tests) in
    sym (ap (λ b. is_line cs && b) (and-false (ends_bare true cs)) ∙ and-false (is_line cs))
    ∙ fits-filled wrap_lines room first cs false h w none
