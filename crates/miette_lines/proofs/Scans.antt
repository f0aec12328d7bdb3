-- What a scan from the front knows of lines.
use Rattle.std.proofs.Common.{◌≡◌, ℕ, suc, zero, ◌+◌, ◌<◌, ◌≤◌, Bool, true, false, cond, not, ◌&&◌, ◌||◌, List, [], ◌∷◌}
use Rattle.std.proofs.Common.{length, refl, sym, ap, ◌∙◌, arith, rules}
use Rattle.std.specs.Prelude.{◌==◌, nat_lt, count_by, slice_get, slice_index}
use Rattle.std.specs.Option.{option_map_or}
use Rattle.std.proofs.lemmas.List.Sums.{sum_by-cons}
use Rattle.std.proofs.lemmas.Bool.{lt-ltb}
use Rattle.miette_lines.specs.rules.Lines.{Line, LF, CR, ends_line, with_byte, lines_from, is_terminated}

-- how many terminators end at an offset of the bytes or before
abbrev pub ends_before : ℕ → List ℕ → ℕ
ends_before zero bs = 0
ends_before (suc o) [] = 0
ends_before (suc o) (b ∷ bs) = cond (ends_line b (slice_index bs 0)) (suc (ends_before o bs)) (ends_before o bs)

-- where the kth terminator of the bytes ends, or the bytes where there is none
abbrev pub after : ℕ → List ℕ → ℕ
after zero bs = 0
after (suc k) [] = 0
after (suc k) (b ∷ bs) = suc (after (cond (ends_line b (slice_index bs 0)) k (suc k)) bs)

-- how many terminated lines have an end that passes
abbrev pub ends_count : (ℕ → Bool) → List Line → ℕ
ends_count q ls = count_by (λ l. is_terminated l && q l.end) ls

-- how many terminators have an end that passes
abbrev pub ends_by : (ℕ → Bool) → ℕ → List ℕ → ℕ
ends_by q at [] = 0
ends_by q at (b ∷ bs) =
    cond (ends_line b (slice_index bs 0)) (cond (q (at + 1)) 1 0 + ends_by q (at + 1) bs) (ends_by q (at + 1) bs)

ends_count-cons : (q : ℕ → Bool) (l : Line) (ls : List Line) → ends_count q (l ∷ ls)
    ≡ cond (is_terminated l && q l.end) 1 0 + ends_count q ls
ends_count-cons q l ls = sum_by-cons (λ l. cond (is_terminated l && q l.end) 1 0) l ls

irrefl : (n : ℕ) → nat_lt n n ≡ false
irrefl n = search rules

less : (n : ℕ) → nat_lt n (n + 1) ≡ true
less n = search rules

swap_conds : (t u : Bool) (n : ℕ) → cond t (suc (cond u (suc n) n)) (cond u (suc n) n)
    ≡ cond u (suc (cond t (suc n) n)) (cond t (suc n) n)
swap_conds true true n = refl
swap_conds true false n = refl
swap_conds false true n = refl
swap_conds false false n = refl

cond_le : (x : Bool) (m n : ℕ) → m ≤ n → cond x (suc m) m ≤ cond x (suc n) n
cond_le true m n h = omega (arith, h)
cond_le false m n h = h

ends_before_le-step : (x : Bool) (m o : ℕ) → m ≤ o → cond x (suc m) m ≤ suc o
ends_before_le-step true m o h = omega (arith, h)
ends_before_le-step false m o h = omega (arith, h)

-- there are no more terminators before an offset than bytes
pub ends_before_le : (o : ℕ) (bs : List ℕ) → ends_before o bs ≤ o
ends_before_le zero bs = omega arith
ends_before_le (suc o) [] = omega arith
ends_before_le (suc o) (b ∷ bs) = ends_before_le-step (ends_line b (slice_index bs 0)) (ends_before o bs) o
    (ends_before_le o bs)

-- one byte more
pub ends_before-suc : (p : ℕ) (bs : List ℕ) → ends_before (suc p) bs
    ≡ cond (ends_line (slice_index bs p) (slice_index bs (suc p))) (suc (ends_before p bs)) (ends_before p bs)
unfolding ends_line
ends_before-suc zero [] = refl
ends_before-suc (suc p) [] = refl
ends_before-suc zero (b ∷ bs) = refl
ends_before-suc (suc p) (b ∷ bs) =
    ap (λ m. cond (ends_line b (slice_index bs 0)) (suc m) m) (ends_before-suc p bs)
    ∙ swap_conds (ends_line b (slice_index bs 0)) (ends_line (slice_index bs p) (slice_index bs (suc p)))
    (ends_before p bs)

after_skip : (x : Bool) (n : ℕ) (bs : List ℕ) → suc (after (cond x (cond x (suc n) n) (suc (cond x (suc n) n))) bs)
    ≡ suc (after (suc n) bs)
after_skip true n bs = refl
after_skip false n bs = refl

-- a line ends after the terminator that a scan has come to
pub after_here : (p : ℕ) (bs : List ℕ) → p < length bs → ends_line (slice_index bs p) (slice_index bs (suc p)) ≡ true
    → after (suc (ends_before p bs)) bs ≡ suc p
unfolding ends_line
after_here zero [] h t = absurd (omega arith)
after_here (suc p) [] h t = absurd (omega arith)
after_here zero (b ∷ bs) h t = ap (λ (x : Bool). suc (after (cond x 0 1) bs)) t
after_here (suc p) (b ∷ bs) h t =
    after_skip (ends_line b (slice_index bs 0)) (ends_before p bs) bs ∙ ap suc (after_here p bs (omega (arith, h)) t)

after_all-step : (x : Bool) (k : ℕ) (bs : List ℕ) → ((j : ℕ) → ends_before (length bs) bs < j → after j bs ≡ length bs)
    → cond x (suc (ends_before (length bs) bs)) (ends_before (length bs) bs) < suc k → suc (after (cond x k (suc k)) bs)
    ≡ suc (length bs)
after_all-step true k bs ih h = ap suc (ih k (omega (arith, h)))
after_all-step false k bs ih h = ap suc (ih (suc k) h)

-- past the last terminator, the bytes end
pub after_all : (bs : List ℕ) (k : ℕ) → ends_before (length bs) bs < k → after k bs ≡ length bs
after_all bs zero h = absurd (omega (arith, h))
after_all [] (suc k) h = refl
after_all (b ∷ bs) (suc k) h = after_all-step (ends_line b (slice_index bs 0)) k bs (after_all bs) h

after_le-step : (x : Bool) (k o : ℕ) (bs : List ℕ) → ((j : ℕ) → j ≤ ends_before o bs → after j bs ≤ o) → suc k
    ≤ cond x (suc (ends_before o bs)) (ends_before o bs) → suc (after (cond x k (suc k)) bs) ≤ suc o
after_le-step true k o bs ih h = let i : after k bs ≤ o = ih k (omega (arith, h)) in omega (arith, i)
after_le-step false k o bs ih h = let i : after (suc k) bs ≤ o = ih (suc k) h in omega (arith, i)

-- a line that is not after an offset's begins at that offset or before
pub after_le : (o : ℕ) (bs : List ℕ) (k : ℕ) → k ≤ ends_before o bs → after k bs ≤ o
after_le o bs zero h = omega arith
after_le zero bs (suc k) h = absurd (omega (arith, h))
after_le (suc o) [] (suc k) h = absurd (omega (arith, h))
after_le (suc o) (b ∷ bs) (suc k) h = after_le-step (ends_line b (slice_index bs 0)) k o bs (after_le o bs) h

-- past the end no terminator comes
pub ends_before_past : (o : ℕ) (bs : List ℕ) → length bs ≤ o → ends_before o bs ≡ ends_before (length bs) bs
ends_before_past zero [] h = refl
ends_before_past (suc o) [] h = refl
ends_before_past zero (b ∷ bs) h = absurd (omega (arith, h))
ends_before_past (suc o) (b ∷ bs) h =
    ap (λ m. cond (ends_line b (slice_index bs 0)) (suc m) m) (ends_before_past o bs (omega (arith, h)))

after_gt-step : (x : Bool) (o : ℕ) (bs : List ℕ) → (ends_before o bs < ends_before (length bs) bs → o
    < after (suc (ends_before o bs)) bs) →
    cond x (suc (ends_before o bs)) (ends_before o bs) < cond x (suc (ends_before (length bs) bs))
    (ends_before (length bs) bs) →
    suc o < suc (after (cond x (cond x (suc (ends_before o bs)) (ends_before o bs))
    (suc (cond x (suc (ends_before o bs)) (ends_before o bs)))) bs)
after_gt-step true o bs ih h = let i : o < after (suc (ends_before o bs)) bs = ih (omega (arith, h)) in omega (arith, i)
after_gt-step false o bs ih h = let i : o < after (suc (ends_before o bs)) bs = ih h in omega (arith, i)

-- an offset stands before the end of its line, where that line has a terminator
pub after_gt : (o : ℕ) (bs : List ℕ) → ends_before o bs < ends_before (length bs) bs → o
    < after (suc (ends_before o bs)) bs
after_gt zero [] h = absurd (omega (arith, h))
after_gt (suc o) [] h = absurd (omega (arith, h))
after_gt zero (b ∷ bs) h = omega arith
after_gt (suc o) (b ∷ bs) h = after_gt-step (ends_line b (slice_index bs 0)) o bs (after_gt o bs) h

after_mono-step : (x : Bool) (i j : ℕ) (bs : List ℕ) → ((m n : ℕ) → m ≤ n → after m bs ≤ after n bs) → i ≤ j
    → suc (after (cond x i (suc i)) bs) ≤ suc (after (cond x j (suc j)) bs)
after_mono-step true i j bs ih h = let a : after i bs ≤ after j bs = ih i j h in omega (arith, a)
after_mono-step false i j bs ih h = let a : after (suc i) bs ≤ after (suc j) bs = ih (suc i) (suc j) (omega (arith, h))
    in omega (arith, a)

-- later lines end later
pub after_mono : (bs : List ℕ) (i j : ℕ) → i ≤ j → after i bs ≤ after j bs
after_mono bs zero j h = omega arith
after_mono bs (suc i) zero h = absurd (omega (arith, h))
after_mono [] (suc i) (suc j) h = omega arith
after_mono (b ∷ bs) (suc i) (suc j) h = after_mono-step (ends_line b (slice_index bs 0)) i j bs (after_mono bs)
    (omega (arith, h))

after_lt-step : (x : Bool) (k : ℕ) (bs : List ℕ) → ((j : ℕ) → j < ends_before (length bs) bs → after j bs
    < after (suc j) bs) →
    suc k < cond x (suc (ends_before (length bs) bs)) (ends_before (length bs) bs) →
    suc (after (cond x k (suc k)) bs) < suc (after (cond x (suc k) (suc (suc k))) bs)
after_lt-step true k bs ih h = let i : after k bs < after (suc k) bs = ih k (omega (arith, h)) in omega (arith, i)
after_lt-step false k bs ih h = let i : after (suc k) bs < after (suc (suc k)) bs = ih (suc k) h in omega (arith, i)

-- no line with a terminator is empty
pub after_lt : (bs : List ℕ) (k : ℕ) → k < ends_before (length bs) bs → after k bs < after (suc k) bs
after_lt [] k h = absurd (omega (arith, h))
after_lt (b ∷ bs) zero h = omega arith
after_lt (b ∷ bs) (suc k) h = after_lt-step (ends_line b (slice_index bs 0)) k bs (after_lt bs) h

-- no offset has more terminators before it than the bytes have
pub ends_before_all : (o : ℕ) (bs : List ℕ) → ends_before o bs ≤ ends_before (length bs) bs
ends_before_all zero bs = omega arith
ends_before_all (suc o) [] = omega arith
ends_before_all (suc o) (b ∷ bs) = cond_le (ends_line b (slice_index bs 0)) (ends_before o bs)
    (ends_before (length bs) bs) (ends_before_all o bs)

-- the list of lines

no_cr_last : (x y : Bool) → y ≡ true → (x || (y && true)) ≡ false → ⊥
no_cr_last true true e f = cc
no_cr_last true false e f = cc
no_cr_last false true e f = cc
no_cr_last false false e f = cc

lf_next : (x y z : Bool) → y ≡ true → (x || (y && not z)) ≡ false → z ≡ true
lf_next x y true e f = refl
lf_next true y false e f = absurd (cc)
lf_next false true false e f = absurd (cc)
lf_next false false false e f = absurd (cc)

-- after the CR of a CRLF comes the line of its LF
cr_first : (b at : ℕ) (bs : List ℕ) → (b == CR) ≡ true → ends_line b (slice_index bs 0) ≡ false →
    (ls : List Line) × (lines_from (at + 1) bs ≡ record { start = at + 1; text_end = at + 1; end = at + 1 + 1 } ∷ ls)
unfolding ends_line
cr_first b at [] e f = absurd (no_cr_last (b == LF) (b == CR) e f)
cr_first b at (c ∷ cs) e f = (
  lines_from (at + 1 + 1) cs,
  ap (λ (t : Bool). cond (t || ((c == CR) && not (slice_index cs 0 == LF)))
      (record { start = at + 1; text_end = at + 1; end = at + 1 + 1 } ∷ lines_from (at + 1 + 1) cs)
      (with_byte c (at + 1) (lines_from (at + 1 + 1) cs)))
      (lf_next (b == LF) (b == CR) (c == LF) e f),
)

with_byte-cons : (q : ℕ → Bool) (x : Bool) (at : ℕ) (l : Line) (ls : List Line) →
    (x ≡ true → (ms : List Line) × (l ∷ ls ≡ record { start = at + 1; text_end = at + 1; end = at + 1 + 1 } ∷ ms)) →
    ends_count q (record { start = at; text_end = cond x at l.text_end; end = l.end } ∷ ls) ≡ ends_count q (l ∷ ls)
with_byte-cons q false at l ls h = ends_count-cons q (record { start = at; text_end = l.text_end; end = l.end }) ls
    ∙ sym (ends_count-cons q l ls)
with_byte-cons q true at l ls h =
    let e : l ≡ record { start = at + 1; text_end = at + 1; end = at + 1 + 1 } = cc ((h refl).1) in
    let te : l.text_end ≡ at + 1 = ap (λ (m : Line). m.text_end) e in
    let en : l.end ≡ at + 1 + 1 = ap (λ (m : Line). m.end) e in
    let a : nat_lt at l.end ≡ true = lt-ltb at l.end (omega (arith, en)) in
    let c : nat_lt l.text_end l.end ≡ true = lt-ltb l.text_end l.end (omega (arith, en, te)) in
    ends_count-cons q (record { start = at; text_end = at; end = l.end }) ls
    ∙ ap (λ t. cond (t && q l.end) 1 0 + ends_count q ls) (a ∙ sym c)
    ∙ sym (ends_count-cons q l ls)

ends_count-with_byte : (q : ℕ → Bool) (b at : ℕ) (ls : List Line) →
    ((b == CR) ≡ true → (ms : List Line) × (ls ≡ record { start = at + 1; text_end = at + 1; end = at + 1 + 1 } ∷ ms)) →
    ends_count q (with_byte b at ls) ≡ ends_count q ls
ends_count-with_byte q b at [] h = ends_count-cons q (record { start = at; text_end = at + 1; end = at + 1 }) []
    ∙ ap (λ t. cond (t && q (at + 1)) 1 0 + 0) (irrefl (at + 1))
ends_count-with_byte q b at (l ∷ ls) h = with_byte-cons q (b == CR) at l ls h

ends_count-step : (q : ℕ → Bool) (x : Bool) (b at : ℕ) (ls : List Line) (n : ℕ) →
    (x ≡ false → ends_count q (with_byte b at ls) ≡ ends_count q ls) → ends_count q ls ≡ n →
    ends_count q (cond x (record { start = at; text_end = at; end = at + 1 } ∷ ls) (with_byte b at ls))
    ≡ cond x (cond (q (at + 1)) 1 0 + n) n
ends_count-step q true b at ls n w ih =
    ends_count-cons q (record { start = at; text_end = at; end = at + 1 }) ls
    ∙ ap (λ t. cond (t && q (at + 1)) 1 0 + ends_count q ls) (less at)
    ∙ ap (λ m. cond (q (at + 1)) 1 0 + m) ih
ends_count-step q false b at ls n w ih = w refl ∙ ih

-- the terminated lines are the terminators
pub ends_count-lines_from : (q : ℕ → Bool) (at : ℕ) (bs : List ℕ) → ends_count q (lines_from at bs) ≡ ends_by q at bs
ends_count-lines_from q at [] = refl
ends_count-lines_from q at (b ∷ bs) =
    ends_count-step q (ends_line b (slice_index bs 0)) b at (lines_from (at + 1) bs) (ends_by q (at + 1) bs)
    (λ f. ends_count-with_byte q b at (lines_from (at + 1) bs) (λ e. cr_first b at bs e f))
    (ends_count-lines_from q (at + 1) bs)

no_line : (x : Bool) (b at : ℕ) (l : Line) (ls : List Line) → cond x (l ∷ ls) (with_byte b at ls) ≡ [] → ⊥
no_line true b at l ls e = cc
no_line false b at l [] e = cc
no_line false b at l (m ∷ ms) e = cc

-- where there are bytes there is a line
lines_from-nonempty : (at b : ℕ) (bs : List ℕ) → lines_from at (b ∷ bs) ≡ [] → ⊥
lines_from-nonempty at b bs e =
    no_line (ends_line b (slice_index bs 0)) b at (record { start = at; text_end = at; end = at + 1 })
    (lines_from (at + 1) bs) e

abbrev end_at : List Line → ℕ → ℕ → ℕ
end_at ls k d = option_map_or (λ l. l.end) (slice_get ls k) d

abbrev start_at : List Line → ℕ → ℕ → ℕ
start_at ls k d = option_map_or (λ l. l.start) (slice_get ls k) d

end_at-with_byte : (b at : ℕ) (ls : List Line) (k d : ℕ) → (ls ≡ [] → ⊥) → end_at (with_byte b at ls) k d
    ≡ end_at ls k d
end_at-with_byte b at [] k d h = absurd (h refl)
end_at-with_byte b at (l ∷ ls) zero d h = refl
end_at-with_byte b at (l ∷ ls) (suc k) d h = refl

start_at-with_byte : (b at : ℕ) (ls : List Line) (k d : ℕ) → (ls ≡ [] → ⊥) → start_at (with_byte b at ls) (suc k) d
    ≡ start_at ls (suc k) d
start_at-with_byte b at [] k d h = absurd (h refl)
start_at-with_byte b at (l ∷ ls) k d h = refl

start_at-first : (b at : ℕ) (ls : List Line) (d : ℕ) → start_at (with_byte b at ls) 0 d ≡ at
start_at-first b at [] d = refl
start_at-first b at (l ∷ ls) d = refl

end_at-step : (x : Bool) (b at : ℕ) (ls : List Line) (bs : List ℕ) (k d : ℕ) → (ls ≡ [] → ⊥) →
    ((j : ℕ) → end_at ls j d ≡ at + 1 + after (suc j) bs) →
    end_at (cond x (record { start = at; text_end = at; end = at + 1 } ∷ ls) (with_byte b at ls)) k d ≡ at
    + suc (after (cond x k (suc k)) bs)
end_at-step true b at ls bs zero d h ih = omega arith
end_at-step true b at ls bs (suc k) d h ih = let i : end_at ls k d ≡ at + 1 + after (suc k) bs = ih k in i ∙ omega arith
end_at-step false b at ls bs k d h ih = end_at-with_byte b at ls k d h ∙ ih k ∙ omega arith

end_at-one : (x : Bool) (b at k d : ℕ) → d ≡ at + 1 →
    end_at (cond x (record { start = at; text_end = at; end = at + 1 } ∷ []) (with_byte b at [])) k d ≡ at
    + suc (after (cond x k (suc k)) [])
end_at-one true b at zero d e = omega arith
end_at-one true b at (suc k) d e = omega arith
end_at-one false b at zero d e = omega arith
end_at-one false b at (suc k) d e = omega arith

pub end_at-lines_from : (at : ℕ) (bs : List ℕ) (k d : ℕ) → d ≡ at + length bs → end_at (lines_from at bs) k d ≡ at
    + after (suc k) bs
end_at-lines_from at [] k d e = e
end_at-lines_from at (b ∷ []) k d e = end_at-one (ends_line b 0) b at k d e
end_at-lines_from at (b ∷ c ∷ cs) k d e =
    end_at-step (ends_line b c) b at (lines_from (at + 1) (c ∷ cs)) (c ∷ cs) k d (lines_from-nonempty (at + 1) c cs)
    (λ j. end_at-lines_from (at + 1) (c ∷ cs) j d (e ∙ omega arith))

start_at-step : (x : Bool) (b at : ℕ) (ls : List Line) (bs : List ℕ) (k d : ℕ) → (ls ≡ [] → ⊥) →
    ((j : ℕ) → start_at ls j d ≡ at + 1 + after j bs) →
    start_at (cond x (record { start = at; text_end = at; end = at + 1 } ∷ ls) (with_byte b at ls)) (suc k) d ≡ at
    + suc (after (cond x k (suc k)) bs)
start_at-step true b at ls bs k d h ih = let i : start_at ls k d ≡ at + 1 + after k bs = ih k in i ∙ omega arith
start_at-step false b at ls bs k d h ih = start_at-with_byte b at ls k d h ∙ ih (suc k) ∙ omega arith

start_at-zero : (x : Bool) (b at : ℕ) (ls : List Line) (d : ℕ)
    → start_at (cond x (record { start = at; text_end = at; end = at + 1 } ∷ ls) (with_byte b at ls)) 0 d ≡ at
start_at-zero true b at ls d = refl
start_at-zero false b at ls d = start_at-first b at ls d

start_at-one : (x : Bool) (b at k d : ℕ) → d ≡ at + 1 →
    start_at (cond x (record { start = at; text_end = at; end = at + 1 } ∷ []) (with_byte b at [])) (suc k) d ≡ at
    + suc (after (cond x k (suc k)) [])
start_at-one false b at k d e = omega arith
start_at-one true b at zero d e = omega arith
start_at-one true b at (suc k) d e = omega arith

pub start_at-lines_from : (at : ℕ) (bs : List ℕ) (k d : ℕ) → d ≡ at + length bs → start_at (lines_from at bs) k d ≡ at
    + after k bs
start_at-lines_from at [] zero d e = e
start_at-lines_from at [] (suc k) d e = e
start_at-lines_from at (b ∷ bs) zero d e =
    start_at-zero (ends_line b (slice_index bs 0)) b at (lines_from (at + 1) bs) d ∙ omega arith
start_at-lines_from at (b ∷ []) (suc k) d e = start_at-one (ends_line b 0) b at k d e
start_at-lines_from at (b ∷ c ∷ cs) (suc k) d e =
    start_at-step (ends_line b c) b at (lines_from (at + 1) (c ∷ cs)) (c ∷ cs) k d (lines_from-nonempty (at + 1) c cs)
    (λ j. start_at-lines_from (at + 1) (c ∷ cs) j d (e ∙ omega arith))
