-- The list of lines is the cutting of the bytes.
use Rattle.std.proofs.Common.{◌≡◌, ◌≢◌, ℕ, suc, zero, ◌+◌, ◌⊎◌, Bool, true, false, cond, List, [], ◌∷◌, ◌++◌, length}
use Rattle.std.proofs.Common.{refl, sym, ap, ◌∙◌, inl, inr, arith}
use Rattle.std.specs.Prelude.{◌==◌, slice_index, All}
use Rattle.std.proofs.lemmas.Bool.{cases_eq}
use Rattle.std.proofs.lemmas.Bool.Decides.{nat_tests}
use Rattle.miette_lines.specs.rules.Lines.{Line, LF, CR, ends_line, with_byte, lines_from, lines_of, is_text}
use Rattle.miette_lines.specs.rules.Cutting.{IsTerminator, AreLines}

-- a byte that ends a line is LF, or CR with no LF after it
last_byte : (b next : ℕ) → ends_line b next ≡ true → (b ≡ 10) ⊎ ((b ≡ 13) × (next ≢ 10))
unfolding ends_line
last_byte b next e =
    elim (cases_eq b 10) [
      | inl f ↦ inl f
      | inr f ↦ (elim (cases_eq b 13) [
        | inl g ↦ inr (g, λ h. grind (arith, nat_tests, e, f, g, h))
        | inr g ↦ absurd (grind (arith, nat_tests, e, f, g))
      ])
    ]

-- a byte that ends none is text, or CR with LF after it
inner_byte : (b next : ℕ) → ends_line b next ≡ false → (((b == CR) ≡ false) × (is_text b ≡ true))
    ⊎ ((b ≡ 13) × (next ≡ 10))
unfolding ends_line
inner_byte b next e =
    elim (cases_eq b 13) [
      | inl g ↦ inr (g, grind (arith, nat_tests, e, g))
      | inr g ↦ inl (grind (arith, nat_tests, g), grind (arith, nat_tests, e, g))
    ]

no_text : All (λ b. is_text b ≡ true) []
no_text = λ k d h. absurd (omega (arith, h))

text_in_front : (b : ℕ) (text : List ℕ) → is_text b ≡ true → All (λ c. is_text c ≡ true) text
    → All (λ c. is_text c ≡ true) (b ∷ text)
text_in_front b text e h zero d lt = e
text_in_front b text e h (suc k) d lt = h k d (omega (arith, lt))

-- a line of one terminator byte
one : (b at : ℕ) (bs : List ℕ) (ls : List Line) → ends_line b (slice_index bs 0) ≡ true → AreLines (at + 1) ls bs →
    AreLines at (record { start = at; text_end = at; end = at + 1 } ∷ ls) (b ∷ bs)
one b at bs ls e h = (
  bs,
  record {
    text = [];
    terminator = b ∷ [];
    parts = refl;
    plain = no_text;
    ended = elim (last_byte b (slice_index bs 0) e) [
      | inl f ↦ inl (ap (λ x. x ∷ []) f)
      | inr f ↦
          inr (inr (inl (ap (λ x. x ∷ []) f.0, f.1)))
    ];
    some = omega arith;
    start = refl;
    text_end = omega arith;
    end = omega arith;
  },
  h,
)

-- a byte of text in front
more_text : (b at : ℕ) (bs : List ℕ) (ls : List Line) → (b == CR) ≡ false → is_text b ≡ true → AreLines (at + 1) ls bs
    → AreLines at (with_byte b at ls) (b ∷ bs)
more_text b at bs [] n e h = (
  [],
  record {
    text = b ∷ [];
    terminator = [];
    parts = ap (λ x. b ∷ x) h;
    plain = text_in_front b [] e no_text;
    ended = inr (inr (inr (refl, refl)));
    some = omega arith;
    start = refl;
    text_end = omega arith;
    end = omega arith;
  },
  refl,
)
more_text b at bs (l ∷ ls) n e h = (
  h.0,
  record {
    text = b ∷ h.1.text;
    terminator = h.1.terminator;
    parts = ap (λ x. b ∷ x) h.1.parts;
    plain = text_in_front b h.1.text e h.1.plain;
    ended = h.1.ended;
    some = omega arith;
    start = refl;
    text_end = ap (λ (x : Bool). cond x at l.text_end) n ∙ omega (arith, h.1.text_end);
    end = omega (arith, h.1.end);
  },
  h.2,
)

lf_text : (bs text more : List ℕ) → slice_index bs 0 ≡ 10 → bs ≡ text ++ more → All (λ c. is_text c ≡ true) text → text
    ≡ []
lf_text bs [] more e f h = refl
lf_text bs (c ∷ cs) more e f h =
    let g : c ≡ 10 = sym (ap (λ xs. slice_index xs 0) f) ∙ e in
    let p : is_text c ≡ true = h 0 0 (omega arith) in
    absurd (grind (arith, nat_tests, g, p))

lf_terminator : (bs end rest : List ℕ) → slice_index bs 0 ≡ 10 → bs ≡ end ++ rest → IsTerminator end rest → end ≡ LF
    ∷ []
lf_terminator bs end rest e f h =
    let g : slice_index (end ++ rest) 0 ≡ 10 = sym (ap (λ xs. slice_index xs 0) f) ∙ e in
    elim h [
      | inl a ↦ a
      | inr a ↦ (elim a [
        | inl b ↦ (let i : 13 ≡ 10 = sym (ap (λ xs. slice_index (xs ++ rest) 0) b) ∙ g in absurd (omega (arith, i)))
        | inr b ↦ (elim b [
          | inl c ↦ (let i : 13 ≡ 10 = sym (ap (λ xs. slice_index (xs ++ rest) 0) c.0) ∙ g in absurd (omega (arith, i)))
          | inr c ↦ (let i : slice_index rest 0 ≡ 10 = sym (ap (λ xs. slice_index (xs ++ rest) 0) c.0) ∙ g in
              let j : 0 ≡ 10 = sym (ap (λ xs. slice_index xs 0) c.1) ∙ i in absurd (omega (arith, j)))
        ])
      ])
    ]

-- the CR of a CRLF in front
more_cr : (b at : ℕ) (bs : List ℕ) (ls : List Line) → b ≡ 13 → slice_index bs 0 ≡ 10 → AreLines (at + 1) ls bs
    → AreLines at (with_byte b at ls) (b ∷ bs)
more_cr b at bs [] n e h =
    let i : 0 ≡ 10 = sym (ap (λ xs. slice_index xs 0) h) ∙ e in absurd (omega (arith, i))
more_cr b at bs (l ∷ ls) n e h =
    let f : h.1.text ≡ [] = lf_text bs h.1.text (h.1.terminator ++ h.0) e h.1.parts h.1.plain in
    let g : bs ≡ h.1.terminator ++ h.0 = h.1.parts ∙ ap (λ x. x ++ (h.1.terminator ++ h.0)) f in
    let t : h.1.terminator ≡ LF ∷ [] = lf_terminator bs h.1.terminator h.0 e g h.1.ended in
    let c : (b == CR) ≡ true = grind (arith, nat_tests, n) in (
      h.0,
      record {
        text = [];
        terminator = CR ∷ LF ∷ [];
        parts = ap (λ x. x ∷ bs) n ∙ ap (λ x. 13 ∷ x) (g ∙ ap (λ x. x ++ h.0) t);
        plain = no_text;
        ended = inr (inl refl);
        some = omega arith;
        start = refl;
        text_end = ap (λ (x : Bool). cond x at l.text_end) c ∙ omega arith;
        end = omega (arith, h.1.end, ap length f, ap length t);
      },
      h.2,
    )

step : (x : Bool) (b at : ℕ) (bs : List ℕ) (ls : List Line) → ends_line b (slice_index bs 0) ≡ x
    → AreLines (at + 1) ls bs →
    AreLines at (cond x (record { start = at; text_end = at; end = at + 1 } ∷ ls) (with_byte b at ls)) (b ∷ bs)
step true b at bs ls e h = one b at bs ls e h
step false b at bs ls e h =
    elim (inner_byte b (slice_index bs 0) e) [
      | inl f ↦ more_text b at bs ls f.0 f.1 h
      | inr f ↦
          more_cr b at bs ls f.0 f.1 h
    ]

lines_from_cut : (at : ℕ) (bs : List ℕ) → AreLines at (lines_from at bs) bs
lines_from_cut at [] = refl
lines_from_cut at (b ∷ bs) = step (ends_line b (slice_index bs 0)) b at bs (lines_from (at + 1) bs) refl
    (lines_from_cut (at + 1) bs)

-- the lines of a source are its pieces, one after the other
pub lines_are : (bytes : List ℕ) → AreLines 0 (lines_of bytes) bytes
lines_are bytes = lines_from_cut 0 bytes
