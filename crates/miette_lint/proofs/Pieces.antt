-- Lines as pieces, each a text and a terminator: what is joined of clean ones has clean lines.
use Rattle.std.proofs.Common.{◌≡◌, ◌≢◌, ℕ, ◌+◌, ◌-◌, ◌<◌, ◌≤◌, ◌⊎◌, true, false, eqb, List, [], ◌∷◌}
use Rattle.std.proofs.Common.{◌++◌, length, take, drop, refl, sym, ap, ◌∙◌, arith, subst, inl, inr}
use Rattle.std.specs.Prelude.{slice_index, slice_range, All}
use Rattle.std.specs.List.{AllByRecursion}
use Rattle.std.proofs.lemmas.Bool.{eq-eqb, eqb-true, lt-ltb}
use Rattle.std.proofs.lemmas.Bool.Decides.{nat_tests}
use Rattle.std.proofs.lemmas.List.{drop-drop, length-append, length-drop}
use Rattle.std.proofs.Math.Seq.{drop-append_seam, take-append_seam}
use Rattle.miette_lines.proofs.Cases.{by_cases}
use Rattle.miette_lines.specs.rules.Lines.{Line, LF, CR, is_terminated, is_text, lines_from, lines_of}
use Rattle.miette_lines.specs.rules.Cutting.{AreLines, BeginsWith, IsTerminator}
use Rattle.miette_lines.proofs.AreLines.{lines_are}
use Rattle.miette_lines.proofs.Only.{first_line, made}
use Rattle.miette_lint.proofs.CleanTexts.{IsClean}

abbrev pub IsText : ℕ → Type 0
IsText b = is_text b ≡ true

-- LF, CRLF or CR
abbrev pub IsEnding : List ℕ → Type 0
IsEnding end = (end ≡ LF ∷ []) ⊎ (end ≡ CR ∷ LF ∷ []) ⊎ (end ≡ CR ∷ [])

pub ending_some : (end : List ℕ) → IsEnding end → 0 < length end
ending_some end (inl e) = omega (arith, ap length e)
ending_some end (inr (inl e)) = omega (arith, ap length e)
ending_some end (inr (inr e)) = omega (arith, ap length e)

-- ---- the parts of a source's lines

-- of a line of a source: its bytes are its text's and its terminator's, and the text has no byte of one
pub record IsCutOut (source : List ℕ) (l : Line) : Type 0 where
  pub begins : l.start ≤ l.text_end
  pub ends : l.text_end ≤ l.end
  pub within : l.end ≤ length source
  pub some : l.start < l.end
  pub plain : All IsText (slice_range source l.start l.text_end)
  pub ended : l.text_end < l.end → IsEnding (slice_range source l.text_end l.end)

pub front_is : (source : List ℕ) (at : ℕ) (xs ys : List ℕ) (to : ℕ) → drop at source ≡ xs ++ ys → to ≡ at + length xs
    → slice_range source at to ≡ xs
front_is source at xs ys to e f =
    let n : to - at ≡ length xs = omega (arith, f) in
    ap (λ bs. take (to - at) bs) e ∙ ap (λ k. take k (xs ++ ys)) n ∙ take-append_seam xs ys

pub rest_is : (source : List ℕ) (at : ℕ) (xs ys : List ℕ) (to : ℕ) → drop at source ≡ xs ++ ys → to ≡ at + length xs
    → drop to source ≡ ys
rest_is source at xs ys to e f =
    ap (λ k. drop k source) f ∙ sym (drop-drop (length xs) at source) ∙ ap (drop (length xs)) e
    ∙ drop-append_seam xs ys

ending_of_some : (end rest : List ℕ) → IsTerminator end rest → 0 < length end → IsEnding end
ending_of_some end rest (inl e) some = inl e
ending_of_some end rest (inr (inl e)) some = inr (inl e)
ending_of_some end rest (inr (inr (inl e))) some = inr (inr e.0)
ending_of_some end rest (inr (inr (inr e))) some = absurd (omega (arith, some, ap length e.0))

cut_out : (source : List ℕ) (at : ℕ) (l : Line) (bytes rest : List ℕ) → drop at source ≡ bytes → at ≤ length source
    → BeginsWith at l bytes rest → IsCutOut source l × (drop l.end source ≡ rest)
cut_out source at l bytes rest is le w =
    let text : List ℕ = w.text in
    let end : List ℕ = w.terminator in
    let whole : drop at source ≡ text ++ (end ++ rest) = is ∙ w.parts in
    let own : slice_range source l.start l.text_end ≡ text =
    ap (λ s. slice_range source s l.text_end) w.start
    ∙ front_is source at text (end ++ rest) l.text_end whole w.text_end in
    let onwards : drop l.text_end source ≡ end ++ rest =
    rest_is source at text (end ++ rest) l.text_end whole w.text_end in
    let to : l.end ≡ l.text_end + length end = omega (arith, w.end, w.text_end) in
    let terminator : slice_range source l.text_end l.end ≡ end = front_is source l.text_end end rest l.end onwards to in
    let size : length source - at ≡ length text + (length end + length rest) =
    omega (
      arith,
      sym (length-drop at source),
      ap length whole,
      length-append text (end ++ rest),
      length-append end
          rest,
    )
    in (
      record {
        begins = omega (arith, w.start, w.text_end);
        ends = omega (arith, to);
        within = omega (arith, w.end, size, le);
        some = omega (arith, w.start, w.end, w.some);
        plain = subst (All IsText) (sym own) w.plain;
        ended = λ lt. subst IsEnding (sym terminator) (ending_of_some end rest w.ended (omega (arith, lt, to)));
      },
      rest_is source l.text_end end rest l.end onwards to,
    )

cut_from : (source : List ℕ) (at : ℕ) (ls : List Line) (bytes : List ℕ) → drop at source ≡ bytes → at ≤ length source
    → AreLines at ls bytes → AllByRecursion (IsCutOut source) ls
cut_from source at [] bytes is le h = tt
cut_from source at (l ∷ ls) bytes is le h =
    let own : IsCutOut source l × (drop l.end source ≡ h.0) = cut_out source at l bytes h.0 is le h.1 in
    let part : IsCutOut source l = own.0 in
    (part, cut_from source l.end ls h.0 own.1 part.within h.2)

pub cut_outs : (source : List ℕ) → AllByRecursion (IsCutOut source) (lines_of source)
cut_outs source = cut_from source 0 (lines_of source) source refl (omega arith) (lines_are source)

-- ---- clean pieces, joined

pub record Piece : Type 0 where
  pub text : List ℕ
  pub ending : List ℕ

abbrev pub joined : List Piece → List ℕ
joined [] = []
joined (p ∷ ps) = p.text ++ (p.ending ++ joined ps)

pub record IsWhole (p : Piece) : Type 0 where
  pub plain : All IsText p.text
  pub clean : IsClean p.text
  pub ended : IsEnding p.ending

-- a line with a terminator, whose text is clean
pub record IsCleanLine (source : List ℕ) (l : Line) : Type 0 where
  pub clean : IsClean (slice_range source l.start l.text_end)
  pub terminated : is_terminated l ≡ true

-- bytes that begin with a clean line
step : (source : List ℕ) (at : ℕ) (text end rest : List ℕ) → drop at source ≡ text ++ (end ++ rest)
    → All IsText text → IsClean text → IsEnding end → IsTerminator end rest
    → ((to : ℕ) → drop to source ≡ rest → AllByRecursion (IsCleanLine source) (lines_from to rest))
    → AllByRecursion (IsCleanLine source) (lines_from at (text ++ (end ++ rest)))
step source at text end rest is plain clean ending ended later =
    let some : 0 < length end = ending_some end ending in
    let l : Line = made at (at + length text) (at + (length text + length end)) in
    let own : slice_range source at (at + length text) ≡ text =
    front_is source at text (end ++ rest) (at + length text) is refl in
    let onwards : drop (at + length text) source ≡ end ++ rest =
    rest_is source at text (end ++ rest) (at + length text) is refl in
    let after : drop (at + (length text + length end)) source ≡ rest =
    rest_is source (at + length text) end rest (at + (length text + length end)) onwards (omega arith) in
    let first : IsCleanLine source l = record {
      clean = subst IsClean (sym own) clean;
      terminated = lt-ltb (at + length text) (at + (length text + length end)) (omega (arith, some));
    } in
    subst (AllByRecursion (IsCleanLine source)) (sym (first_line at text end rest plain ended (omega (arith, some))))
    (first, later (at + (length text + length end)) after)

-- what an LF at the front of clean pieces says of the first
pub record BeginsByLF (p : Piece) : Type 0 where
  pub none : p.text ≡ []
  pub lf : p.ending ≡ LF ∷ []

no_lf : (b : ℕ) (bs : List ℕ) → All IsText (b ∷ bs) → b ≡ 10 → ⊥
no_lf b bs h e = let p : is_text b ≡ true = h 0 0 (omega arith) in grind (arith, nat_tests, e, p)

pub lf_first : (text end rest : List ℕ) → All IsText text → IsEnding end → slice_index (text ++ (end ++ rest)) 0 ≡ 10
    → BeginsByLF (record { text = text; ending = end })
lf_first (b ∷ bs) end rest plain ended e = absurd (no_lf b bs plain e)
lf_first [] end rest plain (inl f) e = record { none = refl; lf = f }
lf_first [] end rest plain (inr (inl f)) e =
    let bad : 13 ≡ 10 = sym (ap (λ x. slice_index (x ++ rest) 0) f) ∙ e in absurd (omega (arith, bad))
lf_first [] end rest plain (inr (inr f)) e =
    let bad : 13 ≡ 10 = sym (ap (λ x. slice_index (x ++ rest) 0) f) ∙ e in absurd (omega (arith, bad))

-- the rest of bytes is what clean lines come from
abbrev Later : List ℕ → List ℕ → Type 0
Later source rest = (to : ℕ) → drop to source ≡ rest → AllByRecursion (IsCleanLine source) (lines_from to rest)

single : (source : List ℕ) (at : ℕ) (p : Piece) (rest : List ℕ) → drop at source ≡ p.text ++ (p.ending ++ rest)
    → IsWhole p → slice_index rest 0 ≢ 10 → Later source rest
    → AllByRecursion (IsCleanLine source) (lines_from at (p.text ++ (p.ending ++ rest)))
single source at p rest is h other later =
    let ended : IsTerminator p.ending rest = elim h.ended [
      | inl e ↦ inl e
      | inr e ↦ (elim e [
        | inl f ↦ inr (inl f)
        | inr f ↦ inr (inr (inl (f, other)))
      ])
    ] in
    step source at p.text p.ending rest is h.plain h.clean h.ended ended later

-- the CR of one piece and the LF of the next are one terminator
merged : (source : List ℕ) (at : ℕ) (text rest : List ℕ) (end more lf : List ℕ) → end ≡ CR ∷ [] → more ≡ []
    → lf ≡ LF ∷ [] → drop at source ≡ text ++ (end ++ (more ++ (lf ++ rest))) → All IsText text → IsClean text
    → Later source rest
    → AllByRecursion (IsCleanLine source) (lines_from at (text ++ (end ++ (more ++ (lf ++ rest)))))
merged source at text rest end more lf e f g is plain clean later =
    let same : text ++ (end ++ (more ++ (lf ++ rest))) ≡ text ++ ((CR ∷ LF ∷ []) ++ rest) =
    ap (λ x. text ++ (x ++ (more ++ (lf ++ rest)))) e ∙ ap (λ x. text ++ (CR ∷ (x ++ (lf ++ rest)))) f
    ∙ ap (λ x. text ++ (CR ∷ (x ++ rest))) g in
    subst (λ bs. AllByRecursion (IsCleanLine source) (lines_from at bs)) (sym same)
    (step source at text (CR ∷ LF ∷ []) rest (is ∙ same) plain clean (inr (inl refl)) (inr (inl refl)) later)

before_lf : (source : List ℕ) (at : ℕ) (p q : Piece) (rest : List ℕ)
    → drop at source ≡ p.text ++ (p.ending ++ (q.text ++ (q.ending ++ rest))) → IsWhole p → BeginsByLF q
    → Later source (q.text ++ (q.ending ++ rest)) → Later source rest
    → AllByRecursion (IsCleanLine source) (lines_from at (p.text ++ (p.ending ++ (q.text ++ (q.ending ++ rest)))))
before_lf source at p q rest is h lf next later =
    elim h.ended [
      | inl e ↦ step source at p.text p.ending (q.text ++ (q.ending ++ rest)) is h.plain h.clean h.ended (inl e) next
      | inr e ↦ (elim e [
        | inl f ↦ step source at p.text p.ending (q.text ++ (q.ending ++ rest)) is h.plain h.clean h.ended
            (inr (inl f)) next
        | inr f ↦ merged source at p.text rest p.ending q.text q.ending f lf.none lf.lf is h.plain h.clean later
      ])
    ]

clean_from : (source : List ℕ) (ps : List Piece) → AllByRecursion IsWhole ps → Later source (joined ps)
clean_from source [] h at is = tt
clean_from source (p ∷ []) h at is =
    single source at p [] is h.0 (λ e. absurd (omega (arith, e))) (λ to d. tt)
clean_from source (p ∷ q ∷ qs) h at is =
    let rest : List ℕ = joined (q ∷ qs) in
    by_cases {C = AllByRecursion (IsCleanLine source) (lines_from at (joined (p ∷ q ∷ qs)))}
    (eqb (slice_index rest 0) 10)
    (λ t. before_lf source at p q (joined qs) is h.0
    (lf_first q.text q.ending (joined qs) h.1.0.plain h.1.0.ended (eqb-true (slice_index rest 0) 10 t))
    (clean_from source (q ∷ qs) h.1) (clean_from source qs h.1.1))
    (λ f. single source at p rest is h.0
    (λ e. let t : true ≡ false = sym (eq-eqb (slice_index rest 0) 10 e) ∙ f in absurd (cc))
    (clean_from source (q ∷ qs) h.1))

-- what is joined of them has clean lines
pub clean_joined : (ps : List Piece) → AllByRecursion IsWhole ps
    → AllByRecursion (IsCleanLine (joined ps)) (lines_of (joined ps))
clean_joined ps h = clean_from (joined ps) ps h 0 refl
