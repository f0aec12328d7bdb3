-- Each line of a gap is left out, so the line before its end is.
use Rattle.std.proofs.Common.{ℕ, ◌+◌, ◌-◌, ◌<◌, ◌≤◌, ◌≡◌, Bool, true, false, List, [], ◌∷◌, ◌++◌, length, map}
use Rattle.std.proofs.Common.{drop, Option, Some, None, ⊎_elim, refl, sym, ap, ◌∙◌, subst, arith}
use Rattle.std.proofs.lemmas.Bool.{and_from, and_parts, cases_lt, or_left}
use Rattle.miette_lines.specs.rules.Lines as P
use Rattle.miette_lines.specs.rules.Lines.{Line, IsCut}
use Rattle.miette_lines.proofs.Cuts.{cut_le}
use Rattle.miette_snippet_rules.specs.rules.FoldedLabels.{LabelExtent, is_beside_hidden, is_hidden, leaves_out, line_at}
use Rattle.miette_snippet_folds.specs.declared.folds.Fold.{Fold}
use Rattle.miette_snippet_folds.specs.declared.folds.LineStart.{LineStart}
use Rattle.miette_snippet_folds.specs.declared.folds.LabelExtent.{LabelExtent as MadeExtent}
use Rattle.miette_snippet_folds.specs.views.ExtentIndex.{extent_view}
use Rattle.miette_snippet_folds.specs.views.Folding.{fold_in}
use Rattle.miette_snippet_folds.specs.views.Gaps.{next_line, next_line_start}
use Rattle.miette_snippet_folds.proofs.GapLines.{IsBetween, next_begins, next_further, next_hidden, no_between}
use Rattle.miette_snippet_folds.proofs.HiddenLines.{at_drop, drop_next}
use Rattle.miette_snippet_folds.proofs.Starts.{Begins, RunOf, places_by, run_of}

-- ---- the lines between two beginnings, by their numbers

-- the first line of a run lies between where the run begins and ends
pub first_between : (from to : LineStart) (l : Line) (run : List Line) (at k : ℕ) → IsCut at (l ∷ run) to.offset
    → from.offset ≤ at → from.place ≤ k → k + length (l ∷ run) ≡ to.place → IsBetween from to k l
first_between from to l run at k cut low first size = record {
  first = first;
  last = omega (arith, size);
  low = omega (arith, low, cut.0);
  some = omega (arith, cut.0, cut.3);
  high = cut_le l.end run to.offset cut.4;
}

between_run : (from to : LineStart) (lines run rest : List Line) (at k j : ℕ) → drop k lines ≡ run ++ rest
    → IsCut at run to.offset → from.offset ≤ at → from.place ≤ k → k + length run ≡ to.place → k ≤ j → j < to.place
    → IsBetween from to j (line_at lines j)
between_run from to lines [] rest at k j parts cut low first size le lt = absurd (omega (arith, size, le, lt))
between_run from to lines (l ∷ run) rest at k j parts cut low first size le lt =
    ⊎_elim {C = IsBetween from to j (line_at lines j)}
    (λ more. between_run from to lines run rest l.end (k + 1) j (drop_next k lines (run ++ rest) l parts) cut.4
    (omega (arith, low, cut.3)) (omega (arith, first)) (omega (arith, size)) (omega (arith, more)) lt)
    (λ here.
    let same : k ≡ j = omega (arith, le, here) in
    let own : line_at lines k ≡ l = at_drop k lines (run ++ rest) l parts in
    let it : IsBetween from to k l = first_between from to l run at k cut low first size in
    subst (λ (n : ℕ). IsBetween from to n (line_at lines n)) same
    (subst (λ (line : Line). IsBetween from to k line) (sym own) it))
    (cases_lt k j)

between_begins : (start : ℕ) (bytes : List ℕ) (from to : LineStart) (j : ℕ) → Begins start bytes from.offset from.place
    → Begins start bytes to.offset to.place → from.offset ≤ to.offset → from.place ≤ j → j < to.place
    → IsBetween from to j (line_at (P.lines_from start bytes) j)
between_begins start bytes from to j a b order le lt =
    let r : RunOf start bytes from to = run_of start bytes from to a b order in
    between_run from to (P.lines_from start bytes) r.run (P.lines_from to.offset (drop (to.offset - start) bytes))
    from.offset from.place j (a.lines ∙ r.parts) r.cut (omega arith) (omega arith) r.size le lt

-- ---- a line, what stands after it, and where a program goes on

-- what is known of a line of some bytes, and of the folds among their lines
pub record IsPassed (start : ℕ) (bytes : List ℕ) (labels : List MadeExtent) (folds : List Fold) (place : ℕ)
    (line : Line) : Type 0 where
  pub folds_are : folds ≡ map (fold_in start bytes) labels
  pub low : start ≤ line.end
  pub order : line.start ≤ line.end
  pub rest : List Line
  pub there : drop place (P.lines_from start bytes) ≡ line ∷ rest
  pub next : Begins start bytes line.end (place + 1)

hidden_there : (start : ℕ) (bytes : List ℕ) (labels : List MadeExtent) (folds : List Fold) (limit place k : ℕ)
    (line other : Line) (jumps : Bool) → IsPassed start bytes labels folds place line
    → is_hidden limit (P.lines_from start bytes) (map extent_view labels) place line ≡ true
    → IsBetween (next_line place line) (next_line_start folds place line jumps) k other
    → is_hidden limit (P.lines_from start bytes) (map extent_view labels) k other ≡ true
hidden_there start bytes labels folds limit place k line other jumps p own h =
    next_hidden start bytes labels limit place k line other jumps p.low p.order own
    (subst (λ (fs : List Fold). IsBetween (next_line place line) (next_line_start fs place line jumps) k other)
    p.folds_are
    h)

-- the line before one of the gap is hidden too
hidden_before : (start : ℕ) (bytes : List ℕ) (labels : List MadeExtent) (folds : List Fold) (limit place k : ℕ)
    (line other : Line) (jumps : Bool) → IsPassed start bytes labels folds place line
    → is_hidden limit (P.lines_from start bytes) (map extent_view labels) place line ≡ true
    → IsBetween (next_line place line) (next_line_start folds place line jumps) k other
    → is_hidden limit (P.lines_from start bytes) (map extent_view labels) (k - 1)
    (line_at (P.lines_from start bytes) (k - 1)) ≡ true
hidden_before start bytes labels folds limit place k line other jumps p own h =
    let ls : List Line = P.lines_from start bytes in
    let label_extents : List LabelExtent = map extent_view labels in
    let near : LineStart = next_line place line in
    let far : LineStart = next_line_start folds place line jumps in
    let first : place + 1 ≤ k = h.first in
    ⊎_elim {C = is_hidden limit ls label_extents (k - 1) (line_at ls (k - 1)) ≡ true}
    (λ more. hidden_there start bytes labels folds limit place (k - 1) line (line_at ls (k - 1)) jumps p own
    (between_begins start bytes near far (k - 1) p.next
    (next_begins start bytes labels folds place line jumps p.folds_are p.next) (next_further folds place line jumps)
    (omega (arith, more)) (omega (arith, first, h.last))))
    (λ here.
    let same : place ≡ k - 1 = omega (arith, first, here) in
    let at : is_hidden limit ls label_extents place (line_at ls place) ≡ true =
    ap (is_hidden limit ls label_extents place) (at_drop place ls p.rest line p.there) ∙ own in
    subst (λ (n : ℕ). is_hidden limit ls label_extents n (line_at ls n) ≡ true) same at)
    (cases_lt (place + 1) k)

-- each line of the gap is left out
gap_outs : (start : ℕ) (bytes : List ℕ) (labels : List MadeExtent) (folds : List Fold) (limit : Option ℕ) (place : ℕ)
    (line : Line) (jumps : Bool) → IsPassed start bytes labels folds place line
    → leaves_out limit (P.lines_from start bytes) (map extent_view labels) place line ≡ true
    → (k : ℕ) (other : Line) → IsBetween (next_line place line) (next_line_start folds place line jumps) k other →
    leaves_out limit (P.lines_from start bytes) (map extent_view labels) k other ≡ true
gap_outs start bytes labels folds None place line jumps p out k other h = let e : false ≡ true = out in absurd (cc)
gap_outs start bytes labels folds (Some limit) place line jumps p out k other h =
    let ls : List Line = P.lines_from start bytes in
    let label_extents : List LabelExtent = map extent_view labels in
    let own : is_hidden limit ls label_extents place line ≡ true =
    (and_parts (is_hidden limit ls label_extents place line) (is_beside_hidden limit ls label_extents place) out).0 in
    and_from (is_hidden limit ls label_extents k other) (is_beside_hidden limit ls label_extents k)
    (hidden_there start bytes labels folds limit place k line other jumps p own h)
    (or_left (is_hidden limit ls label_extents (k - 1) (line_at ls (k - 1)))
    (is_hidden limit ls label_extents (k + 1) (line_at ls (k + 1)))
    (hidden_before start bytes labels folds limit place k line other jumps p own h))

pub next_outs : (start : ℕ) (bytes : List ℕ) (labels : List MadeExtent) (folds : List Fold) (limit : Option ℕ)
    (place : ℕ) (line : Line) (jumps : Bool) → IsPassed start bytes labels folds place line
    → (jumps ≡ true → leaves_out limit (P.lines_from start bytes) (map extent_view labels) place line ≡ true)
    → (k : ℕ) (other : Line) → IsBetween (next_line place line) (next_line_start folds place line jumps) k other →
    leaves_out limit (P.lines_from start bytes) (map extent_view labels) k other ≡ true
next_outs start bytes labels folds limit place line true p out k other h =
    gap_outs start bytes labels folds limit place line true p (out refl) k other h
next_outs start bytes labels folds limit place line false p out k other h =
    absurd (no_between (next_line place line) k other h)

-- the line before the place where a program goes on is left out where the line is that it comes from
pub next_before : (start : ℕ) (bytes : List ℕ) (labels : List MadeExtent) (folds : List Fold) (limit : Option ℕ)
    (place : ℕ) (line : Line) (jumps left : Bool) → IsPassed start bytes labels folds place line
    → left ≡ leaves_out limit (P.lines_from start bytes) (map extent_view labels) place line
    → (jumps ≡ true → left ≡ true)
    → left ≡ leaves_out limit (P.lines_from start bytes) (map extent_view labels)
    ((next_line_start folds place line jumps).place - 1)
    (line_at (P.lines_from start bytes) ((next_line_start folds place line jumps).place - 1))
next_before start bytes labels folds limit place line false left p is gone =
    let ls : List Line = P.lines_from start bytes in
    let label_extents : List LabelExtent = map extent_view labels in
    let same : place ≡ place + 1 - 1 = omega arith in
    subst (λ (n : ℕ). left ≡ leaves_out limit ls label_extents n (line_at ls n)) same
    (is ∙ ap (leaves_out limit ls label_extents place) (sym (at_drop place ls p.rest line p.there)))
next_before start bytes labels folds limit place line true left p is gone =
    let ls : List Line = P.lines_from start bytes in
    let label_extents : List LabelExtent = map extent_view labels in
    let near : LineStart = next_line place line in
    let far : LineStart = next_line_start folds place line true in
    let b : Begins start bytes far.offset far.place =
    next_begins start bytes labels folds place line true p.folds_are p.next in
    let order : line.end ≤ far.offset = next_further folds place line true in
    let further : place + 1 ≤ far.place = places_by start bytes near far p.next b order in
    ⊎_elim {C = left ≡ leaves_out limit ls label_extents (far.place - 1) (line_at ls (far.place - 1))}
    (λ more. gone refl ∙ sym (gap_outs start bytes labels folds limit place line true p (sym is ∙ gone refl)
    (far.place - 1) (line_at ls (far.place - 1))
    (between_begins start bytes near far (far.place - 1) p.next b order (omega (arith, more)) (omega (arith, more)))))
    (λ here.
    let same : place ≡ far.place - 1 = omega (arith, here, further) in
    subst (λ (n : ℕ). left ≡ leaves_out limit ls label_extents n (line_at ls n)) same
    (is ∙ ap (leaves_out limit ls label_extents place) (sym (at_drop place ls p.rest line p.there))))
    (cases_lt (place + 1) far.place)
