-- The added and the unchanged lines have the bytes of the applied text.
use Rattle.std.proofs.Common.{ℕ, zero, suc, ◌-◌, ◌≤◌, ◌≡◌, Bool, true, false, cond, List, [], ◌∷◌, ◌++◌}
use Rattle.std.proofs.Common.{length, take, drop, reverse, refl, sym, ap, ap₂, ◌∙◌, arith, append_assoc}
use Rattle.std.specs.Prelude.{slice_index, slice_range}
use Rattle.std.specs.Str.{bytes_eq}
use Rattle.std.proofs.Math.Seq.{take-append-add}
use Rattle.std.proofs.lemmas.Slice.Eq.{bytes_eq-Decides}
use Rattle.std.proofs.lemmas.List.{drop-drop, drop_at, length-drop, length-reverse}
use Rattle.std.proofs.lemmas.List.{reverse-reverse, take-append-drop, take-take, take_at}
use Rattle.miette_lines.proofs.Cases.{by_cases}
use Rattle.miette_lines.specs.rules.Lines.{ends_line}
use Rattle.miette_fixes.specs.rules.Edits.{Replacement, end_of}
use Rattle.miette_fixes.specs.rules.Applying.{text_from}
use Rattle.miette_fixes.specs.views.Ordered.{FitFrom}
use Rattle.miette_fix_rows.specs.laws.Whole.{all_bytes}
use Rattle.miette_fix_rows.specs.rules.Blocks.{bytes_of, line_texts, onto_line}
use Rattle.miette_fix_rows.specs.rules.Hunks.{common, common_after, block_diff}
use Rattle.miette_fix_rows.specs.steps.Parting.{new_until, old_until, staying}
use Rattle.miette_fix_rows.proofs.Parting.{staying_new, staying_old}
use Rattle.miette_fix_rows.proofs.PartsOfParts.{drop_front, drop_join, slice_front, slice_join}
use Rattle.miette_fix_rows.proofs.Trimmed.{after_is, after_within}

-- ---- bytes of lines

pub bytes_append : (ls ms : List (List ℕ)) → all_bytes (ls ++ ms) ≡ all_bytes ls ++ all_bytes ms
bytes_append [] ms = refl
bytes_append (l ∷ ls) ms =
    ap (λ xs. l ++ xs) (bytes_append ls ms) ∙ sym (append_assoc l (all_bytes ls) (all_bytes ms))

onto-step : (x : Bool) (b : ℕ) (ls : List (List ℕ))
    → all_bytes (cond x ((b ∷ []) ∷ ls) (onto_line b ls)) ≡ b ∷ all_bytes ls
onto-step true b ls = refl
onto-step false b [] = refl
onto-step false b (l ∷ ls) = refl

pub bytes_of_lines : (bs : List ℕ) → all_bytes (line_texts bs) ≡ bs
bytes_of_lines [] = refl
bytes_of_lines (b ∷ bs) =
    onto-step (ends_line b (slice_index bs 0)) b (line_texts bs) ∙ ap (λ xs. b ∷ xs) (bytes_of_lines bs)

take_bytes : (k : ℕ) (ls : List (List ℕ)) → all_bytes (take k ls) ≡ take (bytes_of (take k ls)) (all_bytes ls)
take_bytes zero ls = refl
take_bytes (suc k) [] = refl
take_bytes (suc k) (l ∷ ls) =
    ap (λ xs. l ++ xs) (take_bytes k ls) ∙ sym (take-append-add l (all_bytes ls) (bytes_of (take k ls)))

-- ---- common lines

-- lines that are common at the front are the same
common_same : (ls ms : List (List ℕ)) → take (common ls ms) ls ≡ take (common ls ms) ms
common_same [] [] = refl
common_same [] (m ∷ ms) = refl
common_same (l ∷ ls) [] = refl
common_same (l ∷ ls) (m ∷ ms) =
    by_cases {C = take (common (l ∷ ls) (m ∷ ms)) (l ∷ ls) ≡ take (common (l ∷ ls) (m ∷ ms)) (m ∷ ms)} (bytes_eq l m)
    (λ t. rw t (ap₂ (λ x xs. x ∷ xs) ((bytes_eq-Decides l m).0 t) (common_same ls ms)))
    (λ f. rw f refl)

pub three : (ls : List (List ℕ)) (b m : ℕ) → b ≤ m → ls ≡ take b ls ++ (drop b (take m ls) ++ drop m ls)
three ls b m le =
    sym (take-append-drop m ls) ∙ ap (λ xs. xs ++ drop m ls) (sym (take-append-drop b (take m ls)))
    ∙ ap (λ xs. (xs ++ drop b (take m ls)) ++ drop m ls) (take-take b m ls le)
    ∙ append_assoc (take b ls) (drop b (take m ls)) (drop m ls)

ending_is : (n : ℕ) (ls : List (List ℕ)) → n ≤ length ls
    → drop (length ls - n) ls ≡ reverse (take n (reverse ls))
ending_is n ls le =
    let k : ℕ = length ls - n in
    let m : length (reverse (drop k ls)) ≡ n = omega (arith, le, length-reverse (drop k ls), length-drop k ls) in
    let front : take n (reverse ls) ≡ reverse (drop k ls) =
    ap (take n) (after_is k ls) ∙ take_at (reverse (drop k ls)) (reverse (take k ls)) n m in
    sym (ap reverse front ∙ reverse-reverse (drop k ls))

-- the lines that stay are the same in both
pub front_same : (olds news : List (List ℕ)) → take (staying olds news) olds ≡ take (staying olds news) news
front_same olds news =
    let b : ℕ = staying olds news in
    let m : ℕ = old_until olds news in
    let n : ℕ = new_until olds news in
    sym (take-take b m olds (staying_old olds news)) ∙ common_same (take m olds) (take n news)
    ∙ take-take b n news (staying_new olds news)

pub ending_same : (olds news : List (List ℕ))
    → drop (old_until olds news) olds ≡ drop (new_until olds news) news
ending_same olds news =
    let n : ℕ = common_after olds news in
    let within = after_within olds news in
    ending_is n olds within.0 ∙ ap reverse (common_same (reverse olds) (reverse news))
    ∙ sym (ending_is n news within.1)

drop_bytes : (k : ℕ) (ls : List (List ℕ)) → all_bytes (drop k ls) ≡ drop (bytes_of (take k ls)) (all_bytes ls)
drop_bytes zero ls = refl
drop_bytes (suc k) [] = refl
drop_bytes (suc k) (l ∷ ls) =
    drop_bytes k ls
    ∙ ap (drop (bytes_of (take k ls))) (sym (drop_at l (all_bytes ls) (length l) refl))
    ∙ drop-drop (bytes_of (take k ls)) (length l) (l ++ all_bytes ls)

-- a new text: what stays of the old one at the front, the added lines, and what stays at the end
pub new_text : (old new : List ℕ) → new ≡ take
    (bytes_of (take (staying (line_texts old) (line_texts new)) (line_texts old))) old
    ++ (all_bytes (block_diff (line_texts old) (line_texts new)).added
    ++ drop (bytes_of (take (old_until (line_texts old) (line_texts new)) (line_texts old))) old)
new_text old new =
    let olds : List (List ℕ) = line_texts old in
    let news : List (List ℕ) = line_texts new in
    let b : ℕ = staying olds news in
    let m : ℕ = old_until olds news in
    let n : ℕ = new_until olds news in
    let added : List (List ℕ) = drop b (take n news) in
    let front : all_bytes (take b news) ≡ take (bytes_of (take b olds)) old =
    ap all_bytes (sym (front_same olds news)) ∙ take_bytes b olds
    ∙ ap (take (bytes_of (take b olds))) (bytes_of_lines old) in
    let ending : all_bytes (drop n news) ≡ drop (bytes_of (take m olds)) old =
    ap all_bytes (sym (ending_same olds news)) ∙ drop_bytes m olds
    ∙ ap (drop (bytes_of (take m olds))) (bytes_of_lines old) in
    sym (bytes_of_lines new) ∙ ap all_bytes (three news b n (staying_new olds news))
    ∙ bytes_append (take b news) (added ++ drop n news)
    ∙ ap₂ ◌++◌ front (bytes_append added (drop n news) ∙ ap (λ xs. all_bytes added ++ xs) ending)

-- ---- texts from an offset on

abbrev pub Far : ℕ → List Replacement → Type 0
Far at [] = Unit {0}
Far at (e ∷ es) = at ≤ e.span.offset

pub text_split : (source : List ℕ) (p q : ℕ) (es : List Replacement) → p ≤ q → Far q es
    → text_from source p es ≡ slice_range source p q ++ text_from source q es
text_split source p q [] le far = drop_join source p q le
text_split source p q (e ∷ es) le far =
    let o : ℕ = e.span.offset in
    let rest : List ℕ = text_from source (end_of e) es in
    ap (λ xs. (xs ++ e.text) ++ rest) (slice_join source p q o le far)
    ∙ ap (λ xs. xs ++ rest) (append_assoc (slice_range source p q) (slice_range source q o) e.text)
    ∙ append_assoc (slice_range source p q) (slice_range source q o ++ e.text) rest

pub text_over : (source : List ℕ) (m p : ℕ) (block rest : List Replacement) → FitFrom m p block → Far m rest
    → text_from source p (block ++ rest) ≡ text_from (take m source) p block ++ text_from source m rest
text_over source m p [] rest h far =
    text_split source p m rest h far ∙ ap (λ xs. xs ++ text_from source m rest) (sym (drop_front source p m h))
text_over source m p (e ∷ es) rest h far =
    let low : p ≤ e.span.offset = h.0 in
    let high : end_of e ≤ m = h.1 in
    ap₂ (λ xs ys. (xs ++ e.text) ++ ys)
    (sym (slice_front source p e.span.offset m low (omega (arith, high))))
    (text_over source m (end_of e) es rest h.2 far)
    ∙ sym (append_assoc (slice_range (take m source) p e.span.offset ++ e.text)
    (text_from (take m source) (end_of e) es) (text_from source m rest))
