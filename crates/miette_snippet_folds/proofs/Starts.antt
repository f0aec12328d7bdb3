-- Where lines begin, and the lines from one beginning to another.
use Rattle.std.proofs.Common.{ℕ, zero, suc, ◌+◌, ◌-◌, ◌≤◌, ◌≡◌, Bool, true, false, cond, nat_le, ◌&&◌, List}
use Rattle.std.proofs.Common.{[], ◌∷◌, ◌++◌, length, take, drop, ⊎_elim, inl, inr, refl, sym, ap, ◌∙◌, subst, arith}
use Rattle.std.specs.Prelude.{slice_index}
use Rattle.std.proofs.lemmas.Bool.{cases_lt}
use Rattle.std.proofs.lemmas.List.{drop-drop, drop_all, length-drop, length-take-le, take-append-drop}
use Rattle.std.proofs.lemmas.List.Sums.{count_by-le-length}
use Rattle.std.proofs.Math.Seq.{drop-nil}
use Rattle.miette_lines.specs.rules.Lines as P
use Rattle.miette_lines.specs.rules.Lines.{Line, ends_line, with_byte, line_of, line_start, IsCut}
use Rattle.miette_lines.specs.declared.lines.LineOfText.{LineOfText}
use Rattle.miette_lines.specs.views.Walking.{line_of_text}
use Rattle.miette_lines.proofs.Scans.{after}
use Rattle.miette_lines.proofs.Places.{line_start-is, line_start_le, line_start_within}
use Rattle.miette_lines.proofs.Cuts.{cut_from}
use Rattle.miette_lines.proofs.Parts.{place_shifted}
use Rattle.miette_snippet_rules.specs.rules.FoldedLabels.{line_index_of}
use Rattle.miette_snippet_folds.specs.declared.folds.LineStart.{LineStart}
use Rattle.miette_snippet_folds.specs.views.Folding.{start_in}
use Rattle.miette_snippet_folds.specs.views.Gaps.{nearer, further}

-- ---- places of offsets

-- no offset has more lines before it than there are
pub few_among : (offset : ℕ) (ls : List Line) → line_index_of ls offset ≤ length ls
few_among offset ls = count_by-le-length (λ line. P.is_terminated line && nat_le line.end offset) ls

-- the line that an offset lies on begins there or before
pub begun_low : (start : ℕ) (bytes : List ℕ) (offset : ℕ) → start ≤ offset → start
    + line_start bytes (line_index_of (P.lines_from start bytes) offset) ≤ offset
begun_low start bytes offset low =
    let same : line_index_of (P.lines_from start bytes) offset ≡ line_of bytes (offset - start) =
    place_shifted start bytes offset in
    let le : line_start bytes (line_index_of (P.lines_from start bytes) offset) ≤ offset - start =
    line_start_le bytes (line_index_of (P.lines_from start bytes) offset) (offset - start) (omega (arith, same)) in
    omega (arith, le, low)

-- ---- the lines from one on

drop_with_byte : (b at k : ℕ) (ls : List Line) → drop (suc k) (with_byte b at ls) ≡ drop (suc k) ls
drop_with_byte b at k [] = drop-nil k ∙ sym (drop-nil (suc k))
drop_with_byte b at k (l ∷ ls) = refl

drop_step : (x : Bool) (b at k : ℕ) (bs : List ℕ) (ls : List Line)
    → ((j : ℕ) → drop j ls ≡ P.lines_from (at + 1 + after j bs) (drop (after j bs) bs)) →
    drop (suc k) (cond x (record { start = at; text_end = at; end = at + 1 } ∷ ls) (with_byte b at ls))
    ≡ P.lines_from (at + suc (after (cond x k (suc k)) bs)) (drop (suc (after (cond x k (suc k)) bs)) (b ∷ bs))
drop_step true b at k bs ls ih =
    let sums : at + 1 + after k bs ≡ at + suc (after k bs) = omega arith in
    ih k ∙ ap (λ n. P.lines_from n (drop (after k bs) bs)) sums
drop_step false b at k bs ls ih =
    let sums : at + 1 + after (suc k) bs ≡ at + suc (after (suc k) bs) = omega arith in
    drop_with_byte b at k ls ∙ ih (suc k) ∙ ap (λ n. P.lines_from n (drop (after (suc k) bs) bs)) sums

drop_lines : (at : ℕ) (bs : List ℕ) (k : ℕ) → drop k (P.lines_from at bs)
    ≡ P.lines_from (at + after k bs) (drop (after k bs) bs)
drop_lines at bs zero = let sums : at ≡ at + 0 = omega arith in ap (λ n. P.lines_from n bs) sums
drop_lines at [] (suc k) = drop-nil (suc k)
drop_lines at (b ∷ bs) (suc k) = drop_step (ends_line b (slice_index bs 0)) b at k bs (P.lines_from (at + 1) bs)
    (λ j. drop_lines (at + 1) bs j)

-- one of the lines of some bytes begins at an offset, or all of them end there, and `place` of them stand before it
pub record Begins (start : ℕ) (bytes : List ℕ) (offset place : ℕ) : Type 0 where
  pub low : start ≤ offset
  pub high : offset ≤ start + length bytes
  pub count : place ≤ length (P.lines_from start bytes)
  pub lines : drop place (P.lines_from start bytes) ≡ P.lines_from offset (drop (offset - start) bytes)

-- the first line
pub begins_first : (start : ℕ) (bytes : List ℕ) → Begins start bytes (start + 0) 0
begins_first start bytes =
    let sums : start ≡ start + 0 = omega arith in
    let none : 0 ≡ start + 0 - start = omega arith in
    record {
      low = omega arith;
      high = omega arith;
      count = omega arith;
      lines = ap (λ n. P.lines_from n bytes) sums ∙ ap (λ n. P.lines_from (start + 0) (drop n bytes)) none;
    }

-- a line that begins there, and those after it
pub begun_line : (start : ℕ) (bytes : List ℕ) (at place : ℕ) (line : LineOfText) → Begins start bytes (start + at) place
    → P.lines_from (start + at) (drop at bytes) ≡ line_of_text line
    ∷ P.lines_from line.end (drop (line.end - start) bytes) →
    drop place (P.lines_from start bytes) ≡ line_of_text line ∷ P.lines_from line.end (drop (line.end - start) bytes)
begun_line start bytes at place line h part =
    let same : start + at - start ≡ at = omega arith in
    h.lines ∙ ap (λ n. P.lines_from (start + at) (drop n bytes)) same ∙ part

-- the line after one
pub begins_next : (start : ℕ) (bytes : List ℕ) (at place : ℕ) (line : LineOfText)
    → Begins start bytes (start + at) place →
    P.lines_from (start + at) (drop at bytes) ≡ line_of_text line
    ∷ P.lines_from line.end (drop (line.end - start) bytes) → start ≤ line.end → line.end ≤ start + length bytes →
    Begins start bytes line.end (place + 1)
begins_next start bytes at place line h part low to =
    let ls : List Line = P.lines_from start bytes in
    let rest : List Line = P.lines_from line.end (drop (line.end - start) bytes) in
    let here : drop place ls ≡ line_of_text line ∷ rest = begun_line start bytes at place line h part in
    let some : length (drop place ls) ≡ length ls - place = length-drop place ls in
    let one : length (drop place ls) ≡ suc (length rest) = ap length here in
    record {
      low = low;
      high = to;
      count = omega (arith, some, one, h.count);
      lines = sym (drop-drop 1 place ls) ∙ ap (drop 1) here;
    }

-- after the last line
pub begins_end : (start : ℕ) (bytes : List ℕ) (offset place : ℕ) → offset ≡ start + length bytes → place
    ≡ length (P.lines_from start bytes) → Begins start bytes offset place
begins_end start bytes offset place end all =
    let none : drop (offset - start) bytes ≡ [] = drop_all (offset - start) bytes (omega (arith, end)) in
    record {
      low = omega (arith, end);
      high = omega (arith, end);
      count = omega (arith, all);
      lines = drop_all place (P.lines_from start bytes) (omega (arith, all)) ∙ sym (ap (P.lines_from offset) none);
    }

-- the line with a place
pub begins_start : (start : ℕ) (bytes : List ℕ) (place : ℕ) → place ≤ length (P.lines_from start bytes)
    → Begins start bytes (start_in start bytes place).offset place
begins_start start bytes place few =
    let is : after place bytes ≡ line_start bytes place = sym (line_start-is bytes place) in
    let sums : line_start bytes place ≡ start + line_start bytes place - start = omega arith in
    record {
      low = omega arith;
      high = omega (arith, line_start_within bytes place);
      count = few;
      lines = drop_lines start bytes place ∙ ap (λ n. P.lines_from (start + n) (drop n bytes)) is
          ∙ ap (λ n. P.lines_from (start + line_start bytes place) (drop n bytes)) sums;
    }

-- ---- the lines from one beginning to another

begins_cut : (start : ℕ) (bytes : List ℕ) (offset place : ℕ) → Begins start bytes offset place
    → IsCut offset (P.lines_from offset (drop (offset - start) bytes)) (start + length bytes)
begins_cut start bytes offset place h =
    cut_from offset (drop (offset - start) bytes) (start + length bytes)
    (omega (arith, h.low, h.high, length-drop (offset - start) bytes))

cut_part : (at to n : ℕ) (xs ys : List Line) → IsCut at (xs ++ ys) n → IsCut to ys n → IsCut at xs to
cut_part at to n [] [] h k = omega (arith, h, k)
cut_part at to n [] (y ∷ ys) h k = omega (arith, h.0, k.0)
cut_part at to n (x ∷ xs) ys h k = (h.0, h.1, h.2, h.3, cut_part x.end to n xs ys h.4 k)

cut_length : (at n : ℕ) (ls : List Line) → IsCut at ls n → at + length ls ≤ n
cut_length at n [] h = omega (arith, h)
cut_length at n (l ∷ ls) h = omega (arith, h.3, cut_length l.end n ls h.4)

pub record RunOf (start : ℕ) (bytes : List ℕ) (from to : LineStart) : Type 0 where
  pub run : List Line
  pub parts : P.lines_from from.offset (drop (from.offset - start) bytes) ≡ run
      ++ P.lines_from to.offset (drop (to.offset - start) bytes)
  pub cut : IsCut from.offset run to.offset
  pub size : from.place + length run ≡ to.place

run_by_place : (start : ℕ) (bytes : List ℕ) (from to : LineStart) → Begins start bytes from.offset from.place
    → Begins start bytes to.offset to.place → from.place ≤ to.place → RunOf start bytes from to
run_by_place start bytes from to a b le =
    let ls : List Line = P.lines_from start bytes in
    let d : ℕ = to.place - from.place in
    let left : List Line = drop from.place ls in
    let lines_on : List Line = P.lines_from to.offset (drop (to.offset - start) bytes) in
    let sums : from.place + d ≡ to.place = omega (arith, le) in
    let there : drop d left ≡ lines_on = drop-drop d from.place ls ∙ ap (λ n. drop n ls) sums ∙ b.lines in
    let parts : P.lines_from from.offset (drop (from.offset - start) bytes) ≡ take d left ++ lines_on = sym a.lines
    ∙ sym (take-append-drop d left) ∙ ap (λ xs. take d left ++ xs) there in
    let size : length (take d left) ≡ d = length-take-le d left (omega (arith, le, b.count, length-drop from.place ls))
    in
    record {
      run = take d left;
      parts = parts;
      cut = cut_part from.offset to.offset (start + length bytes) (take d left) lines_on
          (subst (λ (xs : List Line). IsCut from.offset xs (start + length bytes)) parts
          (begins_cut start bytes from.offset from.place a)) (begins_cut start bytes to.offset to.place b);
      size = omega (arith, size, le);
    }

-- a line that begins further on has no smaller place
pub places_by : (start : ℕ) (bytes : List ℕ) (from to : LineStart) → Begins start bytes from.offset from.place
    → Begins start bytes to.offset to.place → from.offset ≤ to.offset → from.place ≤ to.place
places_by start bytes from to a b le =
    ⊎_elim {C = from.place ≤ to.place}
    (λ lt.
    let r : RunOf start bytes to from = run_by_place start bytes to from b a (omega (arith, lt)) in
    let grows : to.offset + length r.run ≤ from.offset = cut_length to.offset from.offset r.run r.cut in
    absurd (omega (arith, grows, r.size, lt, le)))
    (λ ge. ge) (cases_lt to.place from.place)

pub run_of : (start : ℕ) (bytes : List ℕ) (from to : LineStart) → Begins start bytes from.offset from.place
    → Begins start bytes to.offset to.place → from.offset ≤ to.offset → RunOf start bytes from to
run_of start bytes from to a b le = run_by_place start bytes from to a b (places_by start bytes from to a b le)

-- no more lines stand before a place than bytes
pub begins_few : (start : ℕ) (bytes : List ℕ) (offset place : ℕ) → Begins start bytes offset place → start + place
    ≤ offset
begins_few start bytes offset place h =
    let from : LineStart = record { offset = start + 0; place = 0 } in
    let to : LineStart = record { offset = offset; place = place } in
    let le : 0 ≤ place = omega arith in
    let r : RunOf start bytes from to = run_by_place start bytes from to (begins_first start bytes) h le in
    let grows : start + 0 + length r.run ≤ offset = cut_length (start + 0) offset r.run r.cut in
    let size : 0 + length r.run ≡ place = r.size in
    omega (arith, grows, size)

-- the nearer and the further one of two beginnings are beginnings

begins_as : (start : ℕ) (bytes : List ℕ) (a b : LineStart) → Begins start bytes a.offset a.place → a.offset ≡ b.offset
    → a.place ≡ b.place → Begins start bytes b.offset b.place
begins_as start bytes a b h p q = subst (λ (n : ℕ). Begins start bytes n b.place) p
    (subst (λ (n : ℕ). Begins start bytes a.offset n) q h)

pub begins_both : (start : ℕ) (bytes : List ℕ) (a b : LineStart) → Begins start bytes a.offset a.place
    → Begins start bytes b.offset b.place → Begins start bytes (nearer a b).offset (nearer a b).place
    × Begins start bytes (further a b).offset (further a b).place
begins_both start bytes a b h k =
    elim (cases_lt a.offset b.offset) [
      | inl lt ↦
          (let le : a.place ≤ b.place = places_by start bytes a b h k (omega (arith, lt)) in (
            begins_as start bytes a (nearer a b) h (omega (arith, lt)) (omega (arith, le)),
            begins_as start bytes b (further a b) k (omega (arith, lt)) (omega (arith, le)),
          ))
      | inr ge ↦
          (let le : b.place ≤ a.place = places_by start bytes b a k h ge in (
            begins_as start bytes b (nearer a b) k (omega (arith, ge)) (omega (arith, le)),
            begins_as start bytes a (further a b) h (omega (arith, ge)) (omega (arith, le)),
          ))
    ]
