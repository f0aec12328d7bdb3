-- Wrapping keeps all but spaces and line feeds, in order.
use Rattle.std.proofs.Common.{◌≡◌, ℕ, Bool, true, false, cond, ◌&&◌, ◌||◌, List, [], ◌∷◌, ◌++◌, map, flat_map, refl}
use Rattle.std.proofs.Common.{sym, ap, ap₂, ◌∙◌, append_assoc, append-nil}
use Rattle.std.proofs.lemmas.Bool.{and_parts, or_left, or_right}
use Rattle.std.proofs.lemmas.List.Concat.{flat_map-append}
use Rattle.miette_lines.proofs.Cases.{by_cases}
use Rattle.miette_lines.specs.rules.Lists.{is_nil}
use Rattle.miette_runs.specs.rules.Cells.{TaggedChar}
use Rattle.miette_runs.specs.rules.Sequences.{Token, Character, Sequence, is_line_feed}
use Rattle.miette_text.specs.laws.FilledRows.{all_words}
use Rattle.miette_text.specs.rules.Wrapping.{Cuts, WrapPlan, TextLine, Word, all_white, cell_tokens, cut_words}
use Rattle.miette_text.specs.rules.Wrapping.{cuts_of, first_room, further_room, indented_row, is_space}
use Rattle.miette_text.specs.rules.Wrapping.{joined_rows, last_indented, line_feed, no_characters, on_first}
use Rattle.miette_text.specs.rules.Wrapping.{only_spaces, tokens_of_words, rows, text_line_rows, text_line_tokens}
use Rattle.miette_text.specs.rules.Wrapping.{text_lines, text_rows, trimmed_row, whole_lines, with_code}
use Rattle.miette_text.specs.rules.Wrapping.{with_rest, with_tag, wrapped_tokens}
use Rattle.miette_text.proofs.KeptCells.{cut_words-flat}
use Rattle.miette_text.proofs.RowEnds.{rows-hold}
use Rattle.miette_text.proofs.TameResults.{raw, raw-append, rows_some}
use Rattle.miette_text.specs.laws.Kept.{solid}

abbrev whole : List (List Token) → List Token
whole rs = flat_map (λ row. row) rs

-- ---- what is solid of lists that are made of others

one_solid : (t : Token) (us vs : List Token) → solid us ≡ solid vs → solid (t ∷ us) ≡ solid (t ∷ vs)
one_solid (Character c) us vs e = ap (λ r. cond (is_space c || is_line_feed c) r (Character c ∷ r)) e
one_solid (Sequence s) us vs e = ap (λ r. Sequence s ∷ r) e

solid-append : (us vs : List Token) → solid (us ++ vs) ≡ solid us ++ solid vs
solid-append [] vs = refl
solid-append (Character c ∷ us) vs =
    by_cases {C = solid (Character c ∷ us ++ vs) ≡ solid (Character c ∷ us) ++ solid vs} (is_space c || is_line_feed c)
    (λ t. rw t (solid-append us vs)) (λ f. rw f (ap (λ r. Character c ∷ r) (solid-append us vs)))
solid-append (Sequence s ∷ us) vs = ap (λ r. Sequence s ∷ r) (solid-append us vs)

-- two parts that keep what is solid
both_solid : (us us' vs vs' : List Token) → solid us ≡ solid us' → solid vs ≡ solid vs'
    → solid (us ++ vs) ≡ solid (us' ++ vs')
both_solid us us' vs vs' d e =
    solid-append us vs ∙ ap₂ (λ a b. a ++ b) d e ∙ sym (solid-append us' vs')

-- ---- the lines of a text

no_line : (ps : List TextLine) → is_nil ps ≡ false → (f : TextLine → TextLine) → is_nil (on_first f ps) ≡ false
no_line [] h f = h
no_line (p ∷ ps) h f = refl

some_line : (ts : List Token) → is_nil (text_lines ts) ≡ false
some_line [] = refl
some_line (Sequence s ∷ ts) = no_line (text_lines ts) (some_line ts) (with_tag s)
some_line (Character c ∷ ts) = by_cases {C = is_nil (text_lines (Character c ∷ ts)) ≡ false} (is_line_feed c)
    (λ t. rw t refl) (λ f. rw f (no_line (text_lines ts) (some_line ts) (with_code c)))

tag_tokens : (s : List ℕ) (cells : List TaggedChar) (rest : List (List ℕ))
    → text_line_tokens (with_tag s (record { cells = cells; rest = rest }))
    ≡ Sequence s ∷ text_line_tokens (record { cells = cells; rest = rest })
tag_tokens s [] rest = refl
tag_tokens s (cell ∷ cells) rest = refl

tagged : (s : List ℕ) (ps : List TextLine) → is_nil ps ≡ false
    → flat_map text_line_tokens (on_first (with_tag s) ps) ≡ Sequence s ∷ flat_map text_line_tokens ps
tagged s [] h = let bad : true ≡ false = h in cc
tagged s (p ∷ ps) h = ap (λ r. r ++ flat_map text_line_tokens ps) (tag_tokens s p.cells p.rest)

coded : (c : ℕ) (ps : List TextLine) → is_nil ps ≡ false
    → flat_map text_line_tokens (on_first (with_code c) ps) ≡ Character c ∷ flat_map text_line_tokens ps
coded c [] h = let bad : true ≡ false = h in cc
coded c (p ∷ ps) h = refl

lines_solid : (ts : List Token) → solid (flat_map text_line_tokens (text_lines ts)) ≡ solid ts
lines_solid [] = refl
lines_solid (Sequence s ∷ ts) =
    ap solid (tagged s (text_lines ts) (some_line ts))
    ∙ one_solid (Sequence s) (flat_map text_line_tokens (text_lines ts)) ts (lines_solid ts)
lines_solid (Character c ∷ ts) =
    by_cases {C = solid (flat_map text_line_tokens (text_lines (Character c ∷ ts))) ≡ solid (Character c ∷ ts)}
    (is_line_feed c)
    (λ t. let cut : text_lines (Character c ∷ ts) ≡ no_characters ∷ text_lines ts = rw t refl in
    let either : (is_space c || is_line_feed c) ≡ true = or_right (is_space c) (is_line_feed c) t in
    let gone : solid (Character c ∷ ts) ≡ solid ts = rw either refl in
    ap (λ ps. solid (flat_map text_line_tokens ps)) cut ∙ lines_solid ts ∙ sym gone)
    (λ f. let on : text_lines (Character c ∷ ts) ≡ on_first (with_code c) (text_lines ts) = rw f refl in
    ap (λ ps. solid (flat_map text_line_tokens ps)) on ∙ ap solid (coded c (text_lines ts) (some_line ts))
    ∙ one_solid (Character c) (flat_map text_line_tokens (text_lines ts)) ts (lines_solid ts))

-- ---- the rows of a line

trimmed_solid : (ts : List Token) → solid (trimmed_row ts) ≡ solid ts
trimmed_solid [] = refl
trimmed_solid (Sequence s ∷ ts) = one_solid (Sequence s) (trimmed_row ts) ts (trimmed_solid ts)
trimmed_solid (Character c ∷ ts) =
    by_cases {C = solid (trimmed_row (Character c ∷ ts)) ≡ solid (Character c ∷ ts)} (is_space c && only_spaces ts)
    (λ t. let dropped : trimmed_row (Character c ∷ ts) ≡ trimmed_row ts = rw t refl in
    let space : is_space c ≡ true = (and_parts (is_space c) (only_spaces ts) t).0 in
    let either : (is_space c || is_line_feed c) ≡ true = or_left (is_space c) (is_line_feed c) space in
    let gone : solid (Character c ∷ ts) ≡ solid ts = rw either refl in
    ap solid dropped ∙ trimmed_solid ts ∙ sym gone)
    (λ f. let stays : trimmed_row (Character c ∷ ts) ≡ Character c ∷ trimmed_row ts = rw f refl in
    ap solid stays ∙ one_solid (Character c) (trimmed_row ts) ts (trimmed_solid ts))

words_solid : (rs : List (List Word)) → solid (whole (map tokens_of_words rs)) ≡ solid (raw (all_words rs))
words_solid [] = refl
words_solid (r ∷ rs) =
    both_solid (tokens_of_words r) (raw r) (whole (map tokens_of_words rs)) (raw (all_words rs)) (trimmed_solid (raw r))
    (words_solid rs)
    ∙ ap solid (sym (raw-append r (all_words rs)))

rest_last : (rest : List (List ℕ)) (rs : List (List Token)) → is_nil rs ≡ false
    → whole (with_rest rest rs) ≡ whole rs ++ map Sequence rest
rest_last rest [] h = let bad : true ≡ false = h in cc
rest_last rest (r ∷ []) h =
    append-nil (r ++ map Sequence rest) ∙ ap (λ x. x ++ map Sequence rest) (sym (append-nil r))
rest_last rest (r ∷ s ∷ ss) h =
    ap (λ x. r ++ x) (rest_last rest (s ∷ ss) refl) ∙ sym (append_assoc r (whole (s ∷ ss)) (map Sequence rest))

map_some : (rs : List (List Word)) → is_nil rs ≡ false → is_nil (map tokens_of_words rs) ≡ false
map_some [] h = h
map_some (r ∷ rs) h = refl

line_solid : (c : Cuts) (room further : ℕ) (p : TextLine)
    → solid (whole (text_line_rows c room further p)) ≡ solid (text_line_tokens p)
line_solid c room further p =
    let ws : List Word = cut_words c p.cells in
    let rs : List (List Word) = rows room further ws in
    let held : raw (all_words rs) ≡ flat_map cell_tokens p.cells =
    ap raw (rows-hold room further ws) ∙ ap (flat_map cell_tokens) (cut_words-flat c p.cells) in
    ap solid (rest_last p.rest (map tokens_of_words rs) (map_some rs (rows_some room further ws)))
    ∙ both_solid (whole (map tokens_of_words rs)) (flat_map cell_tokens p.cells) (map Sequence p.rest)
    (map Sequence p.rest)
    (words_solid rs ∙ ap solid held) refl

pub rows_solid : (c : Cuts) (room further : ℕ) (ps : List TextLine)
    → solid (flat_map (λ row. row) (text_rows c room further ps)) ≡ solid (flat_map text_line_tokens ps)
rows_solid c room further [] = refl
rows_solid c room further (p ∷ ps) =
    ap solid (flat_map-append (λ row. row) (text_line_rows c room further p) (text_rows c further further ps))
    ∙ both_solid (whole (text_line_rows c room further p)) (text_line_tokens p)
    (whole (text_rows c further further ps)) (flat_map text_line_tokens ps) (line_solid c room further p)
    (rows_solid c further further ps)

pub rows_kept : (c : Cuts) (room further : ℕ) (ts : List Token)
    → solid (flat_map (λ row. row) (text_rows c room further (text_lines ts))) ≡ solid ts
rows_kept c room further ts = rows_solid c room further (text_lines ts) ∙ lines_solid ts

-- ---- without indents

joined_solid : (rs : List (List Token)) → solid (joined_rows [] [] rs) ≡ solid (whole rs)
joined_solid [] = refl
joined_solid (r ∷ []) = ap solid (sym (append-nil r))
joined_solid (r ∷ s ∷ ss) =
    both_solid r r (line_feed ∷ joined_rows [] [] (s ∷ ss)) (whole (s ∷ ss)) refl (joined_solid (s ∷ ss))

bare_row : (p : TextLine) → indented_row [] p ≡ text_line_tokens p
bare_row p = by_cases {C = indented_row [] p ≡ text_line_tokens p} (all_white p.cells) (λ t. rw t refl) (λ f. rw f refl)

bare_last : (cells : List TaggedChar) (rest : List (List ℕ))
    → last_indented [] (record { cells = cells; rest = rest })
    ≡ text_line_tokens (record { cells = cells; rest = rest })
bare_last [] rest = refl
bare_last (cell ∷ cells) rest = bare_row (record { cells = cell ∷ cells; rest = rest })

whole_solid : (ps : List TextLine) → solid (whole_lines [] [] ps) ≡ solid (flat_map text_line_tokens ps)
whole_solid [] = refl
whole_solid (p ∷ []) = ap solid (bare_last p.cells p.rest ∙ sym (append-nil (text_line_tokens p)))
whole_solid (p ∷ q ∷ qs) =
    both_solid (indented_row [] p) (text_line_tokens p) (line_feed ∷ whole_lines [] [] (q ∷ qs))
    (flat_map text_line_tokens (q ∷ qs)) (ap solid (bare_row p)) (whole_solid (q ∷ qs))

bare_solid : (wrap_lines : Bool) (c : Cuts) (room further : ℕ) (ts : List Token)
    → solid (cond wrap_lines (joined_rows [] [] (text_rows c room further (text_lines ts)))
    (whole_lines [] [] (text_lines ts))) ≡ solid ts
bare_solid true c room further ts =
    joined_solid (text_rows c room further (text_lines ts)) ∙ rows_kept c room further ts
bare_solid false c room further ts = whole_solid (text_lines ts) ∙ lines_solid ts

pub text_kept : (p : WrapPlan (List Token)) (ts : List Token) → p.first ≡ [] → p.further ≡ []
    → solid (wrapped_tokens p ts) ≡ solid ts
text_kept p ts h k =
    ap₂ (λ a b. solid (cond p.wrap_lines
    (joined_rows a b (text_rows (cuts_of p) (first_room p) (further_room p) (text_lines ts)))
    (whole_lines a b (text_lines ts)))) h k
    ∙ bare_solid p.wrap_lines (cuts_of p) (first_room p) (further_room p) ts
