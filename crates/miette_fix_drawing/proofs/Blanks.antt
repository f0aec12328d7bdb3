-- What is seen of a line, without the spaces at its end.
use Rattle.std.proofs.Common.{ℕ, zero, suc, ◌-◌, ◌<◌, ◌≤◌, ◌≡◌, eqb, eqb-true, List, [], ◌∷◌, length, take, get_or}
use Rattle.std.proofs.Common.{refl, sym, ap, ◌∙◌, arith}
use Rattle.miette_lines.proofs.Cases.{by_cases}
use Rattle.miette_fix_rows.specs.rules.DiffTexts.{onto_seen, without_blanks}

blank_end : (codes : List ℕ) (k d : ℕ) → suc k ≤ length codes → get_or codes k d ≡ 32
    → without_blanks (take k codes) ≡ without_blanks (take (suc k) codes)
blank_end [] k d lt e = absurd (omega (arith, lt))
blank_end (c ∷ cs) zero d lt e = rw e refl
blank_end (c ∷ cs) (suc k) d lt e = ap (onto_seen c) (blank_end cs k d (omega (arith, lt)) e)

other_end : (codes : List ℕ) (k d : ℕ) → suc k ≤ length codes → (get_or codes k d ≡ 32 → ⊥)
    → take (suc k) codes ≡ without_blanks (take (suc k) codes)
other_end [] k d lt e = absurd (omega (arith, lt))
other_end (c ∷ cs) zero d lt e =
    by_cases {C = take 1 (c ∷ cs) ≡ without_blanks (take 1 (c ∷ cs))} (eqb c 32)
    (λ t. absurd (e (eqb-true c 32 t)))
    (λ f. rw f refl)
other_end (c ∷ []) (suc k) d lt e = absurd (omega (arith, lt))
other_end (c ∷ n ∷ cs) (suc k) d lt e = ap (onto_seen c) (other_end (n ∷ cs) k d (omega (arith, lt)) e)

-- a space at the end goes
pub blank_at : (codes : List ℕ) (d len : ℕ) → 0 < len → len ≤ length codes → get_or codes (len - 1) d ≡ 32
    → without_blanks (take (len - 1) codes) ≡ without_blanks (take len codes)
blank_at codes d zero some le e = absurd (omega (arith, some))
blank_at codes d (suc k) some le e =
    let last : suc k - 1 ≡ k = omega arith in
    ap (λ j. without_blanks (take j codes)) last
    ∙ blank_end codes k d le (sym (ap (λ j. get_or codes j d) last) ∙ e)

pub blank_off : (codes : List ℕ) (d len : ℕ) → 0 < len → len ≤ length codes → d ≡ get_or codes (len - 1) d → d ≡ 32
    → without_blanks (take (len - 1) codes) ≡ without_blanks (take len codes)
blank_off codes d len some le is e = blank_at codes d len some le (sym is ∙ e)

-- and another character stays
pub other_at : (codes : List ℕ) (d len : ℕ) → 0 < len → len ≤ length codes → (get_or codes (len - 1) d ≡ 32 → ⊥)
    → take len codes ≡ without_blanks (take len codes)
other_at codes d zero some le e = absurd (omega (arith, some))
other_at codes d (suc k) some le e =
    let last : suc k - 1 ≡ k = omega arith in
    other_end codes k d le (λ h. e (ap (λ j. get_or codes j d) last ∙ h))

pub other_kept : (codes : List ℕ) (d len : ℕ) → 0 < len → len ≤ length codes → d ≡ get_or codes (len - 1) d
    → (d ≡ 32 → ⊥) → take len codes ≡ without_blanks (take len codes)
other_kept codes d len some le is e = other_at codes d len some le (λ h. e (is ∙ h))

pub none_left : (codes : List ℕ) (len : ℕ) → len ≤ 0 → take len codes ≡ without_blanks (take len codes)
none_left codes zero le = refl
none_left codes (suc k) le = absurd (omega (arith, le))
