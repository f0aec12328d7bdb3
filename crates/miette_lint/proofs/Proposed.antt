-- The text after all proposals is the fixed text.
use Rattle.std.proofs.Common.{◌≡◌, ℕ, ◌+◌, ◌-◌, ◌<◌, ◌≤◌, Bool, true, false, cond, eqb, List, [], ◌∷◌, ◌++◌, length}
use Rattle.std.proofs.Common.{take}
use Rattle.std.proofs.Common.{drop, map, refl, sym, ap, ◌∙◌, arith, subst, inl, inr, append_assoc}
use Rattle.std.specs.Prelude.{codes, is_none, slice_range, take_while}
use Rattle.std.specs.List.{flat_map}
use Rattle.std.proofs.lemmas.Bool.{eqb-true, ltb-false}
use Rattle.std.proofs.lemmas.Bool.Decides.{nat_tests}
use Rattle.std.proofs.lemmas.List.{drop-drop, drop-take, drop_all, length-take-le, take-take}
use Rattle.std.proofs.lemmas.List.{length-append}
use Rattle.std.proofs.lemmas.List.Folds.{length-prefix_len}
use Rattle.std.proofs.lemmas.List.Sums.{prefix_len-le-length}
use Rattle.std.proofs.Math.Seq.{take-append_seam}
use Rattle.miette_lines.proofs.Cases.{by_cases}
use Rattle.miette_lines.specs.rules.Cutting.{AreLines, BeginsWith, IsTerminator}
use Rattle.miette_lines.specs.rules.Lines.{IsCut, Line, is_terminated, lines_of}
use Rattle.miette_lines.proofs.AreLines.{lines_are}
use Rattle.miette_lines.proofs.Cuts.{cut_le, lines_cut}
use Rattle.miette_lines.proofs.Parts.{part_length}
use Rattle.miette_fixes.specs.rules.Applying.{text_from}
use Rattle.miette_fixes.specs.rules.ApplyingAll.{all_applied, taken}
use Rattle.miette_fixes.specs.rules.Edits.{FixModel}
use Rattle.miette_lint.specs.rules.Findings.{ending_blanks, is_blank, tab_after_space}
use Rattle.miette_lint.specs.rules.Fixes.{blanks_fix, ending_fix, ending_of, even_blanks, fixed_line}
use Rattle.miette_lint.specs.rules.Fixes.{fixed_text, line_fixes, proposal, proposals_of, spaces_from, terminator_or}
use Rattle.miette_lint.specs.rules.Fixes.{trailing_fix, trimmed}
use Rattle.miette_lint.proofs.Apart.{AreApart, all_are_taken, applied_apart, apart_unless, earlier, edits_in, goes_on}
use Rattle.miette_lint.proofs.Apart.{lists_in, nothing_there, text_unless}
use Rattle.miette_lint.proofs.CleanTexts.{begun_whole, ending_le}

-- ---- only the last line has no terminator

abbrev pub EndsLast : List Line → Type 0
EndsLast [] = Unit {0}
EndsLast (l ∷ ls) = (is_terminated l ≡ false → ls ≡ []) × EndsLast ls

none_left : (at : ℕ) (ls : List Line) (bytes : List ℕ) → bytes ≡ [] → AreLines at ls bytes → ls ≡ []
none_left at [] bytes e h = refl
none_left at (l ∷ ls) bytes e h =
    let w : BeginsWith at l bytes h.0 = h.1 in
    let n : 0 ≡ length w.text + (length w.terminator + length h.0) =
    omega (
      arith,
      ap length (sym e ∙ w.parts),
      length-append w.text (w.terminator ++ h.0),
      length-append w.terminator h.0,
    ) in
    absurd (omega (arith, n, w.some))

rest_none : (end rest : List ℕ) → IsTerminator end rest → length end ≡ 0 → rest ≡ []
rest_none end rest (inl e) n = absurd (omega (arith, ap length e, n))
rest_none end rest (inr (inl e)) n = absurd (omega (arith, ap length e, n))
rest_none end rest (inr (inr (inl e))) n = absurd (omega (arith, ap length e.0, n))
rest_none end rest (inr (inr (inr e))) n = e.1

pub ends_last : (at : ℕ) (ls : List Line) (bytes : List ℕ) → AreLines at ls bytes → EndsLast ls
ends_last at [] bytes h = tt
ends_last at (l ∷ ls) bytes h =
    let w : BeginsWith at l bytes h.0 = h.1 in (
      λ f. let le : l.end ≤ l.text_end = ltb-false l.text_end l.end f in
          none_left l.end ls h.0
          (rest_none w.terminator h.0 w.ended (omega (arith, le, w.end, w.text_end))) h.2,
      ends_last l.end ls h.0 h.2,
    )

-- ---- fixes from a place on, and the text after them from there

record Makes (source : List ℕ) (at : ℕ) (fixes : List FixModel) (text : List ℕ) : Type 0 where
  apart : AreApart (length source) at fixes
  made : text_from source at (edits_in fixes) ≡ text

-- at the end of a line's text
abbrev EndMakes : List ℕ → List ℕ → Line → List FixModel → List ℕ → Bool → Type 0
EndMakes source ending l fixes rest terminated =
    Makes source l.text_end (cond terminated [] (proposal (codes "end the last line") l.end 0 ending ∷ []) ++ fixes)
    (cond terminated (slice_range source l.text_end l.end) ending ++ rest)

with_end : (source ending : List ℕ) (l : Line) (fixes : List FixModel) (rest : List ℕ) → l.text_end ≤ l.end
    → l.end ≤ length source → (is_terminated l ≡ false → fixes ≡ []) → Makes source l.end fixes rest
    → EndMakes source ending l fixes rest (is_terminated l)
with_end source ending l fixes rest le within last h =
    let n : ℕ = length source in
    let P : Bool → Type 0 = EndMakes source ending l fixes rest in
    by_cases {C = P (is_terminated l)} (is_terminated l)
    (λ t. subst P (sym t) (record {
      apart = earlier n l.text_end l.end fixes le h.apart;
      made = goes_on source n l.text_end l.end fixes le h.apart
          ∙ ap (λ r. slice_range source l.text_end l.end ++ r) h.made;
    }))
    (λ f. let ge : l.end ≤ l.text_end = ltb-false l.text_end l.end f in
    let same : l.text_end ≡ l.end = omega (arith, le, ge) in
    let none : fixes ≡ [] = last f in
    let zero : l.end + 0 ≡ l.end = omega arith in
    let apart : AreApart n (l.end + 0) fixes = subst (λ k. AreApart n k fixes) (sym zero) h.apart in
    subst P (sym f) (record {
      apart = apart_unless n l.text_end (l.end + 1) false (codes "end the last line") l.end 0 ending fixes le
          (omega arith) (omega (arith, within)) (λ _. omega arith)
          (subst (AreApart n (l.end + 1)) (sym none) tt);
      made = ap (λ k. text_from source k (edits_in
          (proposal (codes "end the last line") l.end 0 ending ∷ [] ++ fixes))) same
          ∙ text_unless source n false (codes "end the last line") l.end 0 ending fixes apart
          ∙ ap (λ k. ending ++ text_from source k (edits_in fixes)) zero
          ∙ ap (λ r. ending ++ r) h.made;
    }))

-- where blanks end the text, from there on
no_blanks : (source : List ℕ) (k from : ℕ) (rest : List ℕ)
    → cond (eqb k 0) (slice_range source from (from + k)) [] ++ rest ≡ rest
no_blanks source k from rest =
    by_cases {C = cond (eqb k 0) (slice_range source from (from + k)) [] ++ rest ≡ rest} (eqb k 0)
    (λ t. let z : from + k ≡ from = omega (arith, eqb-true k 0 t) in
    ap (λ b. cond b (slice_range source from (from + k)) [] ++ rest) t
    ∙ ap (λ to. slice_range source from to ++ rest) z ∙ ap (λ xs. xs ++ rest) (nothing_there source from))
    (λ f. ap (λ b. cond b (slice_range source from (from + k)) [] ++ rest) f)

pub ne_zero : (k : ℕ) → eqb k 0 ≡ false → 0 < k
ne_zero k f = grind (arith, nat_tests, f)

with_trailing : (source : List ℕ) (end k from : ℕ) (text : List ℕ) (fixes : List FixModel) (rest : List ℕ)
    → k ≡ ending_blanks text → from ≡ end - k → k ≤ end → end ≤ length source → Makes source end fixes rest
    → Makes source from (trailing_fix end text ++ fixes) rest
with_trailing source end k from text fixes rest is at le within h =
    let n : ℕ = length source in
    let to : from + k ≡ end = omega (arith, at, le) in
    let same : trailing_fix end text ≡ cond (eqb k 0) [] (proposal (codes "delete trailing blanks") from k [] ∷ []) =
    ap (λ j. cond (eqb j 0) [] (proposal (codes "delete trailing blanks") (end - j) j [] ∷ [])) (sym is)
    ∙ ap (λ o. cond (eqb k 0) [] (proposal (codes "delete trailing blanks") o k [] ∷ [])) (sym at) in
    let apart : AreApart n (from + k) fixes = subst (λ p. AreApart n p fixes) (sym to) h.apart in
    let some : eqb k 0 ≡ false → from < end = λ f. omega (arith, to, ne_zero k f) in
    subst (λ fs. Makes source from (fs ++ fixes) rest) (sym same)
    (record {
      apart = apart_unless n from end (eqb k 0) (codes "delete trailing blanks") from k [] fixes (omega arith)
          (omega (arith, to)) (omega (arith, to, within)) some h.apart;
      made = text_unless source n (eqb k 0) (codes "delete trailing blanks") from k [] fixes apart
          ∙ ap (λ p. cond (eqb k 0) (slice_range source from (from + k)) [] ++ text_from source p (edits_in fixes)) to
          ∙ ap (λ r. cond (eqb k 0) (slice_range source from (from + k)) [] ++ r) h.made
          ∙ no_blanks source k from rest;
    })

pub some_blanks : (at high : ℕ) (blanks : List ℕ) → high ≡ at + length blanks
    → is_none (tab_after_space blanks) ≡ false → at < high
some_blanks at high [] is f = let bad : true ≡ false = f in absurd (cc)
some_blanks at high (b ∷ bs) is f = omega (arith, is)

-- from the line's start on
with_blanks : (source : List ℕ) (at high : ℕ) (blanks : List ℕ) (fixes : List FixModel) (rest : List ℕ)
    → high ≡ at + length blanks → high ≤ length source → slice_range source at high ≡ blanks
    → Makes source high fixes rest → Makes source at (blanks_fix at blanks ++ fixes) (even_blanks blanks ++ rest)
with_blanks source at high blanks fixes rest is within own h =
    let n : ℕ = length source in
    let none : Bool = is_none (tab_after_space blanks) in
    let apart : AreApart n (at + length blanks) fixes = subst (λ p. AreApart n p fixes) is h.apart in
    let some : none ≡ false → at < high = λ f. some_blanks at high blanks is f in
    record {
      apart = apart_unless n at high none (codes "indent by spaces") at (length blanks) (spaces_from 0 blanks) fixes
          (omega arith) (omega (arith, is)) (omega (arith, is, within)) some h.apart;
      made = text_unless source n none (codes "indent by spaces") at (length blanks) (spaces_from 0 blanks) fixes apart
          ∙ ap (λ p. cond none (slice_range source at p) (spaces_from 0 blanks) ++ text_from source p (edits_in fixes))
          (sym is)
          ∙ ap (λ xs. cond none xs (spaces_from 0 blanks) ++ text_from source high (edits_in fixes)) own
          ∙ ap (λ r. even_blanks blanks ++ r) h.made;
    }

-- ---- a line

-- where a text's blanks at the beginning end, and those at its end begin
record HasParts (source text : List ℕ) (at end : ℕ) : Type 0 where
  after : ℕ
  before : ℕ
  after_is : after ≡ at + length (take_while is_blank (trimmed text))
  before_is : before ≡ end - ending_blanks text
  few : ending_blanks text ≤ end
  order : after ≤ before
  to : before ≤ end
  blanks : slice_range source at after ≡ take_while is_blank (trimmed text)
  rest : slice_range source after before
      ≡ drop (length (take_while is_blank (trimmed text))) (trimmed text)

has_parts : (source : List ℕ) (at end : ℕ) → at ≤ end → end ≤ length source
    → HasParts source (slice_range source at end) at end
has_parts source at end le within =
    let text : List ℕ = slice_range source at end in
    let later : List ℕ = drop at source in
    let k : ℕ = ending_blanks text in
    let kept : List ℕ = trimmed text in
    let blanks : List ℕ = take_while is_blank kept in
    let m : ℕ = length blanks in
    let size : length text ≡ end - at = part_length source at end within in
    let small : k ≤ length text = ending_le text in
    let some : ℕ = length text - k in
    let short : kept ≡ take some later = take-take some (end - at) later (omega (arith, size)) in
    let kept_size : length kept ≡ some = length-take-le some text (omega arith) in
    let fits : m ≤ some = omega (arith, length-prefix_len is_blank kept, prefix_len-le-length is_blank kept, kept_size)
    in
    let before : ℕ = end - k in
    let after : ℕ = at + m in
    let gap : ℕ = before - after in
    let sum : m + gap ≡ some = omega (arith, size, small, fits, le) in
    let near : after - at ≡ m = omega arith in
    let front : take m kept ≡ blanks =
    ap (take m) (sym (begun_whole kept)) ∙ take-append_seam blanks (drop m kept) in
    record {
      after = after;
      before = before;
      after_is = refl;
      before_is = refl;
      few = omega (arith, small, size, le);
      order = omega (arith, size, small, fits, le);
      to = omega arith;
      blanks = ap (λ j. take j later) near ∙ sym (take-take m some later fits) ∙ ap (take m) (sym short) ∙ front;
      rest = ap (take gap) (sym (drop-drop m at source)) ∙ sym (drop-take m gap later)
          ∙ ap (λ j. drop m (take j later)) sum ∙ ap (drop m) (sym short);
    }

line_makes : (source ending : List ℕ) (l : Line) (fixes : List FixModel) (rest : List ℕ) → l.start ≤ l.text_end
    → l.text_end ≤ l.end → l.end ≤ length source → (is_terminated l ≡ false → fixes ≡ [])
    → Makes source l.end fixes rest
    → Makes source l.start (line_fixes source ending l ++ fixes) (fixed_line source ending l ++ rest)
line_makes source ending l fixes rest begins ends within last h =
    let text : List ℕ = slice_range source l.start l.text_end in
    let kept : List ℕ = trimmed text in
    let blanks : List ℕ = take_while is_blank kept in
    let m : ℕ = length blanks in
    let end : List ℕ = terminator_or ending source l in
    let p : HasParts source text l.start l.text_end =
    has_parts source l.start l.text_end begins (omega (arith, ends, within)) in
    let bf : List FixModel = blanks_fix l.start blanks in
    let tf : List FixModel = trailing_fix l.text_end text in
    let ef : List FixModel = ending_fix ending l in
    let a : Makes source l.text_end (ef ++ fixes) (end ++ rest) =
    with_end source ending l fixes rest ends within last h in
    let b : Makes source p.before (tf ++ (ef ++ fixes)) (end ++ rest) =
    with_trailing source l.text_end (ending_blanks text) p.before text (ef ++ fixes) (end ++ rest) refl p.before_is
    p.few (omega (arith, ends, within)) a in
    let c : Makes source p.after (tf ++ (ef ++ fixes)) (drop m kept ++ (end ++ rest)) = record {
      apart = earlier (length source) p.after p.before (tf ++ (ef ++ fixes)) p.order b.apart;
      made = goes_on source (length source) p.after p.before (tf ++ (ef ++ fixes)) p.order b.apart
          ∙ ap (λ r. slice_range source p.after p.before ++ r) b.made
          ∙ ap (λ xs. xs ++ (end ++ rest)) p.rest;
    } in
    let d : Makes source l.start (bf ++ (tf ++ (ef ++ fixes))) (even_blanks blanks ++ (drop m kept ++ (end ++ rest))) =
    with_blanks source l.start p.after blanks (tf ++ (ef ++ fixes)) (drop m kept ++ (end ++ rest)) p.after_is
    (omega (arith, p.order, p.to, ends, within)) p.blanks c in
    let same : bf ++ (tf ++ (ef ++ fixes)) ≡ (bf ++ (tf ++ ef)) ++ fixes =
    ap (λ xs. bf ++ xs) (sym (append_assoc tf ef fixes)) ∙ sym (append_assoc bf (tf ++ ef) fixes) in
    let whole : even_blanks blanks ++ (drop m kept ++ (end ++ rest)) ≡ ((even_blanks blanks ++ drop m kept) ++ end) ++
    rest =
    sym (append_assoc (even_blanks blanks) (drop m kept) (end ++ rest))
    ∙ sym (append_assoc (even_blanks blanks ++ drop m kept) end rest) in
    subst (λ fs. Makes source l.start fs (fixed_line source ending l ++ rest)) same
    (subst (Makes source l.start (bf ++ (tf ++ (ef ++ fixes)))) whole d)

-- ---- all lines

none_fixed : (source ending : List ℕ) (ls : List Line) → ls ≡ [] → flat_map (line_fixes source ending) ls ≡ []
none_fixed source ending ls e = ap (flat_map (line_fixes source ending)) e

lines_make : (source ending : List ℕ) (at : ℕ) (ls : List Line) → IsCut at ls (length source) → EndsLast ls
    → Makes source at (flat_map (line_fixes source ending) ls) (flat_map (fixed_line source ending) ls)
lines_make source ending at [] cut last = record {
  apart = tt;
  made = drop_all at source (omega (arith, cut));
}
lines_make source ending at (l ∷ ls) cut last =
    let within : l.end ≤ length source = cut_le l.end ls (length source) cut.4 in
    let fixes : List FixModel = flat_map (line_fixes source ending) ls in
    let rest : List ℕ = flat_map (fixed_line source ending) ls in
    subst (λ k. Makes source k (line_fixes source ending l ++ fixes) (fixed_line source ending l ++ rest)) cut.0
    (line_makes source ending l fixes rest (omega (arith, cut.0, cut.1)) cut.2 within
    (λ f. none_fixed source ending ls (last.0 f)) (lines_make source ending l.end ls cut.4 last.1))

proposals_make : (source : List ℕ) → Makes source 0 (proposals_of source) (fixed_text source)
proposals_make source =
    lines_make source (ending_of source) 0 (lines_of source) (lines_cut source)
    (ends_last 0 (lines_of source) source (lines_are source))

pub proposals_apart : (source : List ℕ) → AreApart (length source) 0 (proposals_of source)
proposals_apart source = (proposals_make source).apart

pub proposals_made : (source : List ℕ) → text_from source 0 (edits_in (proposals_of source)) ≡ fixed_text source
proposals_made source = (proposals_make source).made

pub fixed_applied : (source : List ℕ) → all_applied source (lists_in (proposals_of source)) ≡ fixed_text source
fixed_applied source =
    applied_apart source (proposals_of source) (proposals_apart source) ∙ proposals_made source

pub proposals_taken : (source : List ℕ) → taken (length source) [] (lists_in (proposals_of source))
    ≡ map (λ (fix : FixModel). true) (proposals_of source)
proposals_taken source = all_are_taken (length source) 0 [] (proposals_of source) tt (proposals_apart source)
