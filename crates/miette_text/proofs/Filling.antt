-- The steps of filling: a row of a line, and a line of a text, with what stands after it.
use Rattle.std.proofs.Common.{◌≡◌, ℕ, ◌+◌, ◌-◌, ◌<◌, ◌≤◌, List, [], ◌∷◌, ◌++◌, length, take, drop}
use Rattle.std.proofs.Common.{sym, ap, ap₂, ◌∙◌, append_assoc, arith, drop-drop, length-drop}
use Rattle.std.proofs.lemmas.List.{drop-take, take_all, take_rest}
use Rattle.miette_runs.specs.rules.Sequences.{Token, spell}
use Rattle.miette_runs.specs.views.Interleaving.{beyond, cells_at, interleaving, left_at, tags_spelled, upto}
use Rattle.miette_runs.specs.declared.runs.sign.Tag.{Tag}
use Rattle.miette_text.proofs.BareRows.{row_text}
use Rattle.miette_text.proofs.InterleavedRows.{last-printed, row-printed, rows_text}
use Rattle.miette_text.proofs.Joining.{piece-printed, spell-trimmed}
use Rattle.miette_text.proofs.LineWise.{last-line, line-at, line_text, text_of}
use Rattle.miette_text.proofs.RowTexts.{shown}
use Rattle.miette_text.specs.rules.Wrapping.{Cuts, Word, joined_rows, text_line_rows}
use Rattle.miette_runs.specs.rules.Cells.{TaggedChar}
use Rattle.miette_text.specs.steps.Ends.{IsFirstRow, line_len}

-- the tags from the k-th on, and the codes of the n from a place on
abbrev pub tags_from : ℕ → List Tag → List Tag
tags_from k all = take (length all - k) (drop k all)

abbrev pub codes_of_row : ℕ → ℕ → List ℕ → List ℕ
codes_of_row s n cs = drop s (take (s + n) cs)

-- the tags that are left after the codes of a row, of which m were used
pub left-after : (s n k m : ℕ) (cs : List ℕ) (all : List Tag) → drop m (tags_from k all)
    ≡ left_at s (codes_of_row s n cs) (tags_from k all) → drop (k + m) all ≡ left_at s (take n (drop s cs)) (drop k all)
left-after s n k m cs all h =
    sym (drop-drop m k all) ∙ ap (drop m) (sym (take_rest all k)) ∙ h
    ∙ ap₂ (left_at s) (drop-take s n cs) (take_rest all k)

-- ---- a row

row-here : (s n k : ℕ) (cs : List ℕ) (all : List Tag) → row_text s (codes_of_row s n cs) (tags_from k all)
    ≡ shown (cells_at s (take n (drop s cs)) (drop k all))
row-here s n k cs all =
    spell-trimmed (cells_at s (codes_of_row s n cs) (tags_from k all))
    ∙ ap₂ (λ us vs. shown (cells_at s us vs)) (drop-take s n cs) (take_rest all k)

pub first-here : (left after : List TaggedChar → List Word) (room n : ℕ) (xs ys : List ℕ) → xs ≡ ys
    → IsFirstRow left after room xs n → IsFirstRow left after room ys n
first-here left after room n xs ys is f = λ cells further e. f cells further (e ∙ sym is)

pub last-row : (left after : List TaggedChar → List Word) (further : List ℕ) (room room' s n k : ℕ) (cs : List ℕ)
    (all : List Tag) (o o1 : List ℕ) → IsFirstRow left after room (drop s cs) n → length cs ≤ s + n
    → o1 ≡ o ++ row_text s (codes_of_row s n cs) (tags_from k all) →
    o1 ≡ o ++ rows_text left further room room' s (drop s cs) (drop k all)
last-row left after further room room' s n k cs all o o1 f l h =
    h ∙ ap (λ us. o ++ us) (row-here s n k cs all ∙ sym (last-printed left after further room room' n s (drop s cs)
    (drop k all) f (omega (arith, length-drop {A = ℕ} s cs))))

pub next-row : (left after : List TaggedChar → List Word) (further : List ℕ) (room room' s n k m : ℕ) (cs : List ℕ)
    (all : List Tag) (o o1 o2 : List ℕ) → IsFirstRow left after room (drop s cs) n → s + n < length cs
    → o1 ≡ o ++ row_text s (codes_of_row s n cs) (tags_from k all) → drop (k + m) all
    ≡ left_at s (take n (drop s cs)) (drop k all) → o2 ≡ o1 ++ 10 ∷ further →
    o2 ++ rows_text after further room' room' (s + n) (drop (s + n) cs) (drop (k + m) all)
    ≡ o ++ rows_text left further room room' s (drop s cs) (drop k all)
next-row left after further room room' s n k m cs all o o1 o2 f l h said b =
    let xs = drop s cs in
    let ms = drop k all in
    let row = shown (cells_at s (take n xs) ms) in
    let next = rows_text after further room' room' (s + n) (drop (s + n) cs) (drop (k + m) all) in
    let less : n < length xs = omega (arith, length-drop {A = ℕ} s cs) in
    ap (λ us. us ++ next) (b ∙ ap (λ us. us ++ 10 ∷ further) (h ∙ ap (λ us. o ++ us) (row-here s n k cs all)))
    ∙ append_assoc (o ++ row) (10 ∷ further) next
    ∙ append_assoc o row ((10 ∷ further) ++ next)
    ∙ ap (λ us. o ++ us)
    (sym (row-printed left after further room room' n s xs ms f less
    ∙ ap₂ (λ us vs. row ++ ((10 ∷ further) ++ rows_text after further room' room' (s + n) us vs))
    (drop-drop n s cs) (sym said)))

-- ---- a line

-- what the rows of a line print
abbrev pub line_rows : Cuts → List Token → ℕ → ℕ → ℕ → List ℕ → List Tag → List ℕ
line_rows cuts indent room room' s line ms = spell (joined_rows [] indent
    (text_line_rows cuts room room' (record { cells = cells_at s line ms; rest = [] })))

line-here : (cuts : Cuts) (indent : List Token) (room room' s n k : ℕ) (cs : List ℕ) (all : List Tag) →
    line_rows cuts indent room room' s (codes_of_row s n cs) (tags_from k all)
    ≡ line_text cuts (spell indent) room room' s (take n (drop s cs)) (drop k all)
line-here cuts indent room room' s n k cs all =
    piece-printed cuts room room' indent (record {
      cells = cells_at s (codes_of_row s n cs) (tags_from k all);
      rest =
          [];
    })
    ∙ ap₂ (λ us vs. line_text cuts (spell indent) room room' s us vs) (drop-take s n cs) (take_rest all k)

pub last-filled : (cuts : Cuts) (indent : List Token) (room room' s n k m : ℕ) (cs : List ℕ) (all : List Tag)
    (o o1 o2 : List ℕ) → n ≡ line_len (drop s cs) → length cs ≤ s + n →
    o1 ≡ o ++ line_rows cuts indent room room' s (codes_of_row s n cs) (tags_from k all) → drop m (tags_from k all)
    ≡ left_at s (codes_of_row s n cs) (tags_from k all) → o2 ≡ o1 ++ tags_spelled (tags_from (k + m) all) →
    o2 ≡ o ++ text_of cuts (spell indent) room room' (interleaving s (drop s cs) (drop k all))
last-filled cuts indent room room' s n k m cs all o o1 o2 q l h said f =
    let xs = drop s cs in
    let ms = drop k all in
    let long : length xs ≤ n = omega (arith, length-drop {A = ℕ} s cs) in
    f
    ∙ ap₂ (λ us vs. us ++ tags_spelled vs) (h ∙ ap (λ us. o ++ us) (line-here cuts indent room room' s n k cs all))
    (take_rest all (k + m) ∙ left-after s n k m cs all said)
    ∙ append_assoc o (line_text cuts (spell indent) room room' s (take n xs) ms)
    (tags_spelled (left_at s (take n xs) ms))
    ∙ ap (λ us. o ++ us) (ap (λ ys. line_text cuts (spell indent) room room' s ys ms ++ tags_spelled (left_at s ys ms))
    (take_all n xs long) ∙ sym (last-line cuts (spell indent) room room' n s xs ms q long))

pub next-filled : (cuts : Cuts) (indent : List Token) (room room' s n k m j : ℕ) (cs : List ℕ) (all : List Tag)
    (o o1 o2 o3 : List ℕ) → n ≡ line_len (drop s cs) → n < length (drop s cs) →
    o1 ≡ o ++ line_rows cuts indent room room' s (codes_of_row s n cs) (tags_from k all) → drop m (tags_from k all)
    ≡ left_at s (codes_of_row s n cs) (tags_from k all) →
    o2 ≡ o1 ++ tags_spelled (upto (s + n) (tags_from (k + m) all)) → drop j (tags_from (k + m) all)
    ≡ beyond (s + n) (tags_from (k + m) all) → o3 ≡ o2 ++ 10 ∷ spell indent →
    o3 ++ text_of cuts (spell indent) room' room'
    (interleaving ((s + n) + 1) (drop ((s + n) + 1) cs) (drop ((k + m) + j) all))
    ≡ o ++ text_of cuts (spell indent) room room' (interleaving s (drop s cs) (drop k all))
next-filled cuts indent room room' s n k m j cs all o o1 o2 o3 q l h said f told b =
    let further = spell indent in
    let xs = drop s cs in
    let ms = left_at s (take n xs) (drop k all) in
    let text = line_text cuts further room room' s (take n xs) (drop k all) in
    let signs = tags_spelled (upto (s + n) ms) in
    let next = text_of cuts further room' room'
    (interleaving ((s + n) + 1) (drop ((s + n) + 1) cs) (drop ((k + m) + j) all)) in
    let left : tags_from (k + m) all ≡ ms = take_rest all (k + m) ∙ left-after s n k m cs all said in
    let below : drop ((k + m) + j) all ≡ beyond (s + n) ms = sym (drop-drop j (k + m) all)
    ∙ ap (drop j) (sym (take_rest all (k + m))) ∙ told ∙ ap (beyond (s + n)) left in
    let row : o1 ≡ o ++ text = h ∙ ap (λ us. o ++ us) (line-here cuts indent room room' s n k cs all) in
    ap (λ us. us ++ next) (b ∙ ap (λ us. us ++ 10 ∷ further) (f
    ∙ ap₂ (λ us vs. us ++ tags_spelled (upto (s + n) vs)) row left))
    ∙ append_assoc ((o ++ text) ++ signs) (10 ∷ further) next
    ∙ ap (λ us. us ++ ((10 ∷ further) ++ next)) (append_assoc o text signs)
    ∙ append_assoc o (text ++ signs) ((10 ∷ further) ++ next)
    ∙ ap (λ us. o ++ us) (sym (line-at cuts further room room' n s xs (drop k all) q l
    ∙ ap₂ (λ us vs. (text ++ signs) ++ ((10 ∷ further) ++ text_of cuts further room' room'
    (interleaving ((s + n) + 1) us vs))) (drop-drop (n + 1) s cs ∙ ap (λ i. drop i cs) (omega arith)) (sym below)))
