-- Bytes that are parted where a line ends have the lines of both parts.
use Rattle.std.proofs.Common.{ℕ, zero, suc, ◌+◌, ◌-◌, ◌<◌, ◌≤◌, ◌≡◌, Bool, true, false, cond, List, [], ◌∷◌, ◌++◌}
use Rattle.std.proofs.Common.{length, map, take, drop, refl, sym, ap, ap₂, ◌∙◌, subst, arith}
use Rattle.std.specs.Prelude.{slice_index, slice_range}
use Rattle.std.proofs.lemmas.List.{append-nil, drop-drop, get_or-drop, length-drop, take-append-drop}
use Rattle.miette_lines.specs.rules.Lines.{Line, IsCut, ends_line, lines_of, line_start}
use Rattle.miette_lines.proofs.Cuts.{cut_from}
use Rattle.miette_lines.proofs.Places.{line_start-is}
use Rattle.miette_lines.proofs.Scans.{after}
use Rattle.miette_fix_rows.specs.rules.Blocks.{bytes_of, line_texts, onto_line}
use Rattle.miette_fix_rows.specs.rules.Hunks.{has_no_lines}
use Rattle.miette_fix_rows.proofs.Texts.{bytes_of_texts, first_some, some_lines, texts_at, texts_by_place}

-- ---- where two texts meet

abbrev pub Meet : List ℕ → List ℕ → Type 0
Meet [] ys = Unit {0}
Meet (b ∷ []) [] = Unit {0}
Meet (b ∷ []) (y ∷ ys) = ends_line b y ≡ true
Meet (b ∷ c ∷ xs) ys = Meet (c ∷ xs) ys

one_step : (x : Bool) (b : ℕ) → cond x ((b ∷ []) ∷ []) (onto_line b []) ≡ (b ∷ []) ∷ []
one_step true b = refl
one_step false b = refl

onto_both : (x : Bool) (b : ℕ) (ls ms : List (List ℕ)) → has_no_lines ls ≡ false
    → cond x ((b ∷ []) ∷ (ls ++ ms)) (onto_line b (ls ++ ms)) ≡ cond x ((b ∷ []) ∷ ls) (onto_line b ls) ++ ms
onto_both x b [] ms h = absurd (cc)
onto_both true b (l ∷ ls) ms h = refl
onto_both false b (l ∷ ls) ms h = refl

pub texts_meet : (xs ys : List ℕ) → Meet xs ys → line_texts (xs ++ ys) ≡ line_texts xs ++ line_texts ys
texts_meet [] ys h = refl
texts_meet (b ∷ []) [] h = sym (append-nil (line_texts (b ∷ [])))
texts_meet (b ∷ []) (y ∷ ys) h =
    ap (λ (x : Bool). cond x ((b ∷ []) ∷ line_texts (y ∷ ys)) (onto_line b (line_texts (y ∷ ys)))) h
    ∙ ap (λ ls. ls ++ line_texts (y ∷ ys)) (sym (one_step (ends_line b 0) b))
texts_meet (b ∷ c ∷ xs) ys h =
    ap (λ ls. cond (ends_line b c) ((b ∷ []) ∷ ls) (onto_line b ls)) (texts_meet (c ∷ xs) ys h)
    ∙ onto_both (ends_line b c) b (line_texts (c ∷ xs)) (line_texts ys) (some_lines (c ∷ xs) (omega arith))

-- a line ends before an offset, unless it is the first or none is after it
abbrev pub Ended : List ℕ → ℕ → Type 0
Ended bytes at = (k : ℕ) → suc k ≡ at → at < length bytes
    → ends_line (slice_index bytes k) (slice_index bytes at) ≡ true

meet_parts : (n : ℕ) (bs : List ℕ) → Ended bs n → Meet (take n bs) (drop n bs)
meet_parts zero bs h = tt
meet_parts (suc n) [] h = tt
meet_parts (suc zero) (b ∷ []) h = tt
meet_parts (suc zero) (b ∷ c ∷ cs) h = h 0 refl (omega arith)
meet_parts (suc (suc n)) (b ∷ []) h = tt
meet_parts (suc (suc n)) (b ∷ c ∷ cs) h =
    meet_parts (suc n) (c ∷ cs) (λ k e lt. h (suc k) (omega (arith, e)) (omega (arith, lt)))

pub ended_drop : (at n : ℕ) (bs : List ℕ) → at ≤ n → Ended bs n → Ended (drop at bs) (n - at)
ended_drop at n bs le h = λ k e lt.
    let s : at + (n - at) ≡ n = omega (arith, le) in
    let here : slice_index (drop at bs) k ≡ slice_index bs (at + k) = get_or-drop at bs k 0 in
    let next : slice_index (drop at bs) (n - at) ≡ slice_index bs n =
    get_or-drop at bs (n - at) 0 ∙ ap (slice_index bs) s in
    ap₂ ends_line here next ∙ h (at + k) (omega (arith, e, le)) (omega (arith, lt, length-drop at bs))

-- the lines from an offset on are those up to where a line ends, and those from there on
pub texts_seam : (at n : ℕ) (bs : List ℕ) → at ≤ n → Ended bs n
    → line_texts (drop at bs) ≡ line_texts (slice_range bs at n) ++ line_texts (drop n bs)
texts_seam at n bs le h =
    let s : at + (n - at) ≡ n = omega (arith, le) in
    ap line_texts (sym (take-append-drop (n - at) (drop at bs)))
    ∙ texts_meet (take (n - at) (drop at bs)) (drop (n - at) (drop at bs))
    (meet_parts (n - at) (drop at bs) (ended_drop at n bs le h))
    ∙ ap (λ xs. line_texts (slice_range bs at n) ++ line_texts xs) (drop-drop (n - at) at bs ∙ ap (λ m. drop m bs) s)

-- ---- where lines begin

past_first : (x : Bool) (k : ℕ) (b : ℕ) (bs : List ℕ) → ends_line b (slice_index bs 0) ≡ x → 0 < length bs
    → after (cond x k (suc k)) bs ≡ 0 → ends_line b (slice_index bs 0) ≡ true
past_first true k b bs e lt z = e
past_first false k b [] e lt z = absurd (omega (arith, lt))
past_first false k b (c ∷ cs) e lt z = absurd (omega (arith, z))

ended_at : (m : ℕ) (b : ℕ) (bs : List ℕ) → Ended bs m → (m ≡ 0 → 0 < length bs → ends_line b (slice_index bs 0) ≡ true)
    → Ended (b ∷ bs) (suc m)
ended_at zero b bs h z zero e lt = z refl (omega (arith, lt))
ended_at zero b bs h z (suc k) e lt = absurd (omega (arith, e))
ended_at (suc m) b bs h z zero e lt = absurd (omega (arith, e))
ended_at (suc m) b bs h z (suc k) e lt = h k (omega (arith, e)) (omega (arith, lt))

after_ended : (k : ℕ) (bs : List ℕ) → Ended bs (after k bs)
after_ended zero bs = λ j e lt. absurd (omega (arith, e))
after_ended (suc k) [] = λ j e lt. absurd (omega (arith, e))
after_ended (suc k) (b ∷ bs) =
    let x : Bool = ends_line b (slice_index bs 0) in
    ended_at (after (cond x k (suc k)) bs) b bs (after_ended (cond x k (suc k)) bs)
    (λ z lt. past_first x k b bs refl lt z)

pub start_ended : (bs : List ℕ) (k : ℕ) → Ended bs (line_start bs k)
start_ended bs k = subst (λ n. Ended bs n) (sym (line_start-is bs k)) (after_ended k bs)

-- some of the lines end where a line does

some_ended-step : (x : Bool) (b k : ℕ) (bs : List ℕ) (ls : List (List ℕ)) → ends_line b (slice_index bs 0) ≡ x
    → line_texts bs ≡ ls → ((j : ℕ) → Ended bs (bytes_of (take j ls)))
    → Ended (b ∷ bs) (bytes_of (take (suc k) (cond x ((b ∷ []) ∷ ls) (onto_line b ls))))
some_ended-step true b k bs ls e f h =
    let n : suc (bytes_of (take k ls)) ≡ bytes_of (take (suc k) ((b ∷ []) ∷ ls)) = omega arith in
    subst (λ m. Ended (b ∷ bs) m) n (ended_at (bytes_of (take k ls)) b bs (h k) (λ z lt. e))
some_ended-step false b k bs [] e f h =
    let n : suc (bytes_of (take k [])) ≡ bytes_of (take (suc k) ((b ∷ []) ∷ [])) = omega arith in
    let none : length bs ≡ 0 = sym (bytes_of_texts bs) ∙ ap bytes_of f in
    subst (λ m. Ended (b ∷ bs) m) n (ended_at (bytes_of (take k [])) b bs (h k)
    (λ z lt. absurd (omega (arith, none, lt))))
some_ended-step false b k bs (l ∷ ls) e f h =
    let n : suc (bytes_of (take (suc k) (l ∷ ls))) ≡ bytes_of (take (suc k) ((b ∷ l) ∷ ls)) = omega arith in
    let some : 0 < length l = first_some bs l ls f in
    subst (λ m. Ended (b ∷ bs) m) n (ended_at (bytes_of (take (suc k) (l ∷ ls))) b bs (h (suc k))
    (λ z lt. absurd (omega (arith, z, some))))

pub some_ended : (bs : List ℕ) (k : ℕ) → Ended bs (bytes_of (take k (line_texts bs)))
some_ended bs zero = λ j e lt. absurd (omega (arith, e))
some_ended [] (suc k) = λ j e lt. absurd (omega (arith, lt))
some_ended (b ∷ bs) (suc k) =
    some_ended-step (ends_line b (slice_index bs 0)) b k bs (line_texts bs) refl refl (some_ended bs)

-- ---- lines as places

texts_places : (at : ℕ) (bs : List ℕ) (ls : List Line) (to : ℕ) → IsCut at ls to
    → texts_at at (drop at bs) ls ≡ map (λ l. slice_range bs l.start l.end) ls
texts_places at bs [] to h = refl
texts_places at bs (l ∷ ls) to h =
    let s : at + (l.end - at) ≡ l.end = omega (arith, h.1, h.2, h.3) in
    let rest : drop (l.end - at) (drop at bs) ≡ drop l.end bs = drop-drop (l.end - at) at bs ∙ ap (λ m. drop m bs) s in
    ap (λ xs. take (l.end - at) (drop at bs) ∷ texts_at l.end xs ls) rest
    ∙ ap (λ n. take (l.end - n) (drop n bs) ∷ texts_at l.end (drop l.end bs) ls) (sym h.0)
    ∙ ap (λ ms. slice_range bs l.start l.end ∷ ms) (texts_places l.end bs ls to h.4)

pub texts_are_lines : (bs : List ℕ) → line_texts bs ≡ map (λ l. slice_range bs l.start l.end) (lines_of bs)
texts_are_lines bs =
    texts_by_place 0 bs ∙ texts_places 0 bs (lines_of bs) (0 + length bs) (cut_from 0 bs (0 + length bs) refl)
