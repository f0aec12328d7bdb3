-- The rows that words fill hold them in order, and a row is printed without its last spaces.
use Rattle.std.proofs.Common.{◌≡◌, ℕ, ◌+◌, Bool, true, false, ◌&&◌, not, nat_lt, List, [], ◌∷◌, ◌++◌, refl, sym, ap}
use Rattle.std.proofs.Common.{◌∙◌, if◌then◌else◌}
use Rattle.std.proofs.lemmas.Bool.{true≢false, false≢true, and_right, not_from_false}
use Rattle.std.specs.Cmp.{second_so}
use Rattle.miette_runs.specs.rules.Sequences.{Token, Character, Sequence}
use Rattle.miette_text.specs.rules.Wrapping.{Word, columns, word_cells, is_space, only_spaces, rows, rows_after}
use Rattle.miette_text.specs.rules.Wrapping.{trimmed_row}
use Rattle.miette_text.specs.laws.FilledRows.{all_words, sequences_of, is_letter_token, ends_with_letter, IsTrimmed}
use Rattle.miette_lines.specs.rules.Lists.{onto}

-- ---- words

words-onto : (w : Word) (rs : List (List Word)) → all_words (onto w rs) ≡ w ∷ all_words rs
words-onto w [] = refl
words-onto w (r ∷ rs) = refl

words-after : (used room further : ℕ) (ws : List Word) → all_words (rows_after used room further ws) ≡ ws
words-after used room further [] = refl
words-after used room further (w ∷ ws) =
    elim (nat_lt room (used + columns w.letters)) as (λ b. all_words
    (if b then [] ∷ onto w (rows_after (columns (word_cells w)) further further ws)
    else onto w (rows_after (used + columns (word_cells w)) room further ws)) ≡ w ∷ ws) [
      | true ↦ words-onto w (rows_after (columns (word_cells w)) further further ws)
          ∙ ap (λ us. w ∷ us) (words-after (columns (word_cells w)) further further ws)
      | false ↦ words-onto w (rows_after (used + columns (word_cells w)) room further ws)
          ∙ ap (λ us. w ∷ us) (words-after (used + columns (word_cells w)) room further ws)
    ]

pub rows-hold : (room further : ℕ) (ws : List Word) → all_words (rows room further ws) ≡ ws
rows-hold room further [] = refl
rows-hold room further (w ∷ ws) = words-onto w (rows_after (columns (word_cells w)) room further ws)
    ∙ ap (λ us. w ∷ us) (words-after (columns (word_cells w)) room further ws)

-- ---- spaces

spaces-dropped : (ts : List Token) → only_spaces ts ≡ true → trimmed_row ts ≡ sequences_of ts
spaces-dropped [] h = refl
spaces-dropped (Character c ∷ ts) h = ap (λ b. if b then trimmed_row ts else Character c ∷ trimmed_row ts) h
    ∙ spaces-dropped ts (second_so (is_space c) (only_spaces ts) h)
spaces-dropped (Sequence s ∷ ts) h = ap (λ us. Sequence s ∷ us) (spaces-dropped ts h)

token-kept : (t : Token) (ts : List Token) → only_spaces (t ∷ ts) ≡ false → trimmed_row (t ∷ ts) ≡ t ∷ trimmed_row ts
token-kept (Character c) ts h = ap (λ b. if b then trimmed_row ts else Character c ∷ trimmed_row ts) h
token-kept (Sequence s) ts h = refl

and_true : (s t : Bool) → t ≡ true → (s && t) ≡ false → s ≡ false
and_true true t h k = absurd (true≢false (sym h ∙ k))
and_true false t h k = refl

is_letter_token-last : (t : Token) (ts : List Token) → only_spaces ts ≡ true → only_spaces (t ∷ ts) ≡ false
    → is_letter_token t
    ≡ true
is_letter_token-last (Character c) ts h k = not_from_false (is_space c) (and_true (is_space c) (only_spaces ts) h k)
is_letter_token-last (Sequence s) ts h k = absurd (true≢false (sym h ∙ k))

letter-ends : (t : Token) (ts kept dropped : List Token) → ts ≡ kept ++ dropped → ends_with_letter kept ≡ true
    → only_spaces dropped ≡ true → only_spaces (t ∷ ts) ≡ false → ends_with_letter (t ∷ kept) ≡ true
letter-ends t ts [] dropped e l s h = is_letter_token-last t ts (ap only_spaces e ∙ s) h
letter-ends t ts (u ∷ us) dropped e l s h = l

one-more : (t : Token) (ts : List Token) → only_spaces (t ∷ ts) ≡ false → IsTrimmed ts (trimmed_row ts)
    → IsTrimmed (t ∷ ts) (trimmed_row (t ∷ ts))
one-more t ts h r = record {
  kept = t ∷ r.kept;
  dropped = r.dropped;
  whole = ap (λ us. t ∷ us) r.whole;
  letter = letter-ends t ts r.kept r.dropped r.whole r.letter r.spaces h;
  spaces = r.spaces;
  printed = token-kept t ts h ∙ ap (λ us. t ∷ us) r.printed;
}

pub row-trimmed : (ts : List Token) → IsTrimmed ts (trimmed_row ts)
row-trimmed [] = record { kept = []; dropped = []; whole = refl; letter = refl; spaces = refl; printed = refl }
row-trimmed (t ∷ ts) =
    elim (only_spaces (t ∷ ts)) as (λ b. only_spaces (t ∷ ts) ≡ b → IsTrimmed (t ∷ ts) (trimmed_row (t ∷ ts))) [
      | true ↦ λ e. record {
        kept = [];
        dropped = t ∷ ts;
        whole = refl;
        letter = refl;
        spaces = e;
        printed =
            spaces-dropped (t ∷ ts) e;
      }
      | false ↦ λ e. one-more t ts e (row-trimmed ts)
    ] refl

-- ---- and no other is

space-none : (b c : Bool) → not b ≡ true → (b && c) ≡ false
space-none true c h = absurd (false≢true h)
space-none false c h = refl

not_only : (t : Token) (kept dropped : List Token) → ends_with_letter (t ∷ kept) ≡ true
    → only_spaces (t ∷ kept ++ dropped) ≡ false
not_only (Character c) [] dropped h = space-none (is_space c) (only_spaces dropped) h
not_only (Sequence s) [] dropped h = absurd (false≢true h)
not_only (Character c) (u ∷ us) dropped h = and_right (is_space c) (only_spaces (u ∷ us ++ dropped))
    (not_only u us dropped h)
not_only (Sequence s) (u ∷ us) dropped h = not_only u us dropped h

ends-after : (t : Token) (kept : List Token) → ends_with_letter (t ∷ kept) ≡ true → ends_with_letter kept ≡ true
ends-after t [] h = refl
ends-after t (u ∷ us) h = h

trimmed-after : (kept dropped : List Token) → ends_with_letter kept ≡ true → only_spaces dropped ≡ true
    → trimmed_row (kept ++ dropped) ≡ kept ++ sequences_of dropped
trimmed-after [] dropped h k = spaces-dropped dropped k
trimmed-after (t ∷ ts) dropped h k = token-kept t (ts ++ dropped) (not_only t ts dropped h)
    ∙ ap (λ us. t ∷ us) (trimmed-after ts dropped (ends-after t ts h) k)

pub only_trimmed : (row found : List Token) → IsTrimmed row found → found ≡ trimmed_row row
only_trimmed row found r = r.printed ∙ sym (ap trimmed_row r.whole ∙ trimmed-after r.kept r.dropped r.letter r.spaces)
