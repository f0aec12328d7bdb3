-- A gap ends where a line begins, and each of its lines is hidden.
use Rattle.std.proofs.Common.{ℕ, ◌+◌, ◌-◌, ◌<◌, ◌≤◌, ◌≡◌, min, max, le_refl, Bool, true, false, cond, not, ◌&&◌, ◌||◌}
use Rattle.std.proofs.Common.{ltb, leb, List, [], ◌∷◌, map, Option, Some, None, refl, sym, ap, ◌∙◌, subst, arith}
use Rattle.std.specs.List.{AllByRecursion, list_any}
use Rattle.std.specs.Option.{option_map_or}
use Rattle.std.proofs.lemmas.Bool.{and_from, and_parts, le-ltb, leb-false, leb-true, lt-ltb, ltb-false, ltb-true}
use Rattle.std.proofs.lemmas.Bool.{not-true, or_from, or_parts, or_right}
use Rattle.miette_lines.specs.rules.Lines as P
use Rattle.miette_lines.specs.rules.Lines.{Line}
use Rattle.miette_lines.proofs.Cases.{by_cases}
use Rattle.miette_snippet_rules.specs.rules.FoldedLabels.{line_index_of, hides, is_around, is_hidden, is_in_fold}
use Rattle.miette_snippet_folds.specs.declared.folds.Fold.{Fold}
use Rattle.miette_snippet_folds.specs.declared.folds.LineStart.{LineStart}
use Rattle.miette_snippet_folds.specs.declared.folds.LabelExtent.{LabelExtent as MadeExtent}
use Rattle.miette_snippet_folds.specs.views.ExtentIndex.{extent_view}
use Rattle.miette_snippet_folds.specs.views.Folding.{fold_in, is_around_fold}
use Rattle.miette_snippet_folds.specs.steps.Nearness.{is_near_fold}
use Rattle.miette_snippet_folds.specs.views.Gaps.{next_line, further, nearest, nearer_stop, nearest_stop, goes_on}
use Rattle.miette_snippet_folds.specs.views.Gaps.{gap_end}
use Rattle.miette_snippet_folds.specs.views.Gaps.{next_line_start}
use Rattle.miette_snippet_folds.proofs.LeftOutLines.{any_around, any_near}
use Rattle.miette_snippet_folds.proofs.Starts.{Begins, begins_start, begins_both, begun_low, few_among}

-- ---- choices, and tests together

chosen : (A : LineStart → Type 0) (x : Bool) (a b : LineStart) → A a → A b → A (cond x a b)
chosen A true a b p q = p
chosen A false a b p q = q

chosen_of : (A : Option LineStart → Type 0) (x y : Bool) (a b c : Option LineStart) → A a → A b → A c
    → A (cond x a (cond y b c))
chosen_of A true y a b c p q r = p
chosen_of A false true a b c p q r = q
chosen_of A false false a b c p q r = r

or_moved : (a b c d : Bool) → (a ≡ true → c ≡ true) → (b ≡ true → d ≡ true) → (a || b) ≡ true → (c || d) ≡ true
or_moved true b c d f g h = ap (λ x. x || d) (f refl)
or_moved false b c d f g h = or_right c d (g h)

-- ---- a gap ends where a line begins

abbrev BeginsIf : ℕ → List ℕ → Option LineStart → Type 0
BeginsIf start bytes None = Unit {0}
BeginsIf start bytes (Some end) = Begins start bytes end.offset end.place

begins_nearest : (start : ℕ) (bytes : List ℕ) (end : Option LineStart) (stop : LineStart) → BeginsIf start bytes end
    → Begins start bytes stop.offset stop.place →
    Begins start bytes (nearest end stop).offset (nearest end stop).place
begins_nearest start bytes None stop h k = k
begins_nearest start bytes (Some end) stop h k = (begins_both start bytes end stop h k).0

begins_by : (start : ℕ) (bytes : List ℕ) (line : Line) (end : Option LineStart) (label : MadeExtent)
    → BeginsIf start bytes end → BeginsIf start bytes (nearer_stop line end (fold_in start bytes label))
begins_by start bytes line end label h =
    let fold : Fold = fold_in start bytes label in
    let ls : List Line = P.lines_from start bytes in
    chosen_of (BeginsIf start bytes) (leb line.end label.from) (ltb line.start label.until)
    (Some (nearest end fold.begun)) (Some (nearest end fold.resumed)) end
    (begins_nearest start bytes end fold.begun h (begins_start start bytes (line_index_of ls label.from)
    (few_among label.from ls)))
    (begins_nearest start bytes end fold.resumed h (begins_start start bytes (line_index_of ls label.last -
    label.around)
    (omega (arith, few_among label.last ls))))
    h

stop_begins : (start : ℕ) (bytes : List ℕ) (line : Line) (end : Option LineStart) (labels : List MadeExtent)
    → BeginsIf start bytes end → BeginsIf start bytes (nearest_stop line end (map (fold_in start bytes) labels))
stop_begins start bytes line end [] h = h
stop_begins start bytes line end (label ∷ labels) h = stop_begins start bytes line
    (nearer_stop line end (fold_in start bytes label)) labels (begins_by start bytes line end label h)

gap_begins : (start : ℕ) (bytes : List ℕ) (some : LineStart → Bool) (next : LineStart) (end : Option LineStart)
    → Begins start bytes next.offset next.place → BeginsIf start bytes end →
    Begins start bytes (option_map_or (λ e. cond (some e) (further next e) next) end next).offset
    (option_map_or (λ e. cond (some e) (further next e) next) end next).place
gap_begins start bytes some next None h k = h
gap_begins start bytes some next (Some end) h k =
    chosen (λ s. Begins start bytes s.offset s.place) (some end) (further next end) next
    (begins_both start bytes next end h k).1 h

next_begins_in : (start : ℕ) (bytes : List ℕ) (labels : List MadeExtent) (place : ℕ) (line : Line) (jumps : Bool)
    → Begins start bytes line.end (place + 1) →
    Begins start bytes (next_line_start (map (fold_in start bytes) labels) place line jumps).offset
    (next_line_start (map (fold_in start bytes) labels) place line jumps).place
next_begins_in start bytes labels place line jumps h =
    let folds : List Fold = map (fold_in start bytes) labels in
    let next : LineStart = next_line place line in
    chosen (λ s. Begins start bytes s.offset s.place) jumps (gap_end line next folds) next
    (gap_begins start bytes (λ end. list_any (goes_on line end) folds) next (nearest_stop line None folds) h
    (stop_begins start bytes line None labels tt)) h

pub next_begins : (start : ℕ) (bytes : List ℕ) (labels : List MadeExtent) (folds : List Fold) (place : ℕ) (line : Line)
    (jumps : Bool) → folds ≡ map (fold_in start bytes) labels → Begins start bytes line.end (place + 1) →
    Begins start bytes (next_line_start folds place line jumps).offset (next_line_start folds place line jumps).place
next_begins start bytes labels folds place line jumps e h =
    subst (λ (fs : List Fold). Begins start bytes (next_line_start fs place line jumps).offset
    (next_line_start fs place line jumps).place) (sym e) (next_begins_in start bytes labels place line jumps h)

-- a gap ends after its first line

gap_further : (some : LineStart → Bool) (next : LineStart) (end : Option LineStart) → next.offset
    ≤ (option_map_or (λ e. cond (some e) (further next e) next) end next).offset
gap_further some next None = le_refl next.offset
gap_further some next (Some end) =
    let more : next.offset ≤ max next.offset end.offset = omega arith in
    chosen (λ s. next.offset ≤ s.offset) (some end) (further next end) next more (le_refl next.offset)

pub next_further : (folds : List Fold) (place : ℕ) (line : Line) (jumps : Bool) → line.end
    ≤ (next_line_start folds place line jumps).offset
next_further folds place line jumps =
    let next : LineStart = next_line place line in
    chosen (λ s. line.end ≤ s.offset) jumps (gap_end line next folds) next
    (gap_further (λ end. list_any (goes_on line end) folds) next (nearest_stop line None folds)) (le_refl line.end)

-- ---- its lines are hidden

-- an end is no further than another one, if there is one
abbrev IsBelow : LineStart → Option LineStart → Type 0
IsBelow e None = Unit {0}
IsBelow e (Some a) = (e.offset ≤ a.offset) × (e.place ≤ a.place)

below_nearest : (e : LineStart) (end : Option LineStart) (stop : LineStart) → IsBelow e (Some (nearest end stop))
    → IsBelow e end × ((e.offset ≤ stop.offset) × (e.place ≤ stop.place))
below_nearest e None stop h = (tt, h)
below_nearest e (Some a) stop h =
    let p : e.offset ≤ min a.offset stop.offset = h.0 in
    let q : e.place ≤ min a.place stop.place = h.1 in
    ((omega (arith, p), omega (arith, q)), (omega (arith, p), omega (arith, q)))

below_by : (x y : Bool) (e : LineStart) (end : Option LineStart) (a b : LineStart)
    → IsBelow e (cond x (Some (nearest end a)) (cond y (Some (nearest end b)) end)) → IsBelow e end
below_by true y e end a b h = (below_nearest e end a h).0
below_by false true e end a b h = (below_nearest e end b h).0
below_by false false e end a b h = h

below_all : (e : LineStart) (line : Line) (end : Option LineStart) (folds : List Fold) → nearest_stop line end folds
    ≡ Some e → IsBelow e end
below_all e line end [] is = subst (λ (o : Option LineStart). IsBelow e o) (sym is) (le_refl e.offset, le_refl e.place)
below_all e line end (fold ∷ folds) is =
    below_by (leb line.end fold.label.from) (ltb line.start fold.label.until) e end fold.begun fold.resumed
    (below_all e line (nearer_stop line end fold) folds is)

-- it lies no further than where a label's context begins after the first line, or where the lines of one around it are
-- shown again
abbrev StopsAt : Line → LineStart → Fold → Type 0
StopsAt line e fold = (leb line.end fold.label.from ≡ true → e.offset ≤ fold.begun.offset)
    × (leb line.end fold.label.from ≡ false → ltb line.start fold.label.until ≡ true → e.place ≤ fold.resumed.place)

stops_by : (x y : Bool) (e : LineStart) (end : Option LineStart) (a b : LineStart)
    → IsBelow e (cond x (Some (nearest end a)) (cond y (Some (nearest end b)) end)) →
    (x ≡ true → e.offset ≤ a.offset) × (x ≡ false → y ≡ true → e.place ≤ b.place)
stops_by true y e end a b h = (λ t. (below_nearest e end a h).1.0, λ f u. absurd (cc))
stops_by false true e end a b h = (λ t. absurd (cc), λ f u. (below_nearest e end b h).1.1)
stops_by false false e end a b h = (λ t. absurd (cc), λ f u. absurd (cc))

stops_all : (e : LineStart) (line : Line) (end : Option LineStart) (folds : List Fold) → nearest_stop line end folds
    ≡ Some e → AllByRecursion (StopsAt line e) folds
stops_all e line end [] is = tt
stops_all e line end (fold ∷ folds) is = (
  stops_by (leb line.end fold.label.from) (ltb line.start fold.label.until) e end fold.begun fold.resumed
      (below_all e line (nearer_stop line end fold) folds is),
  stops_all e line (nearer_stop line end fold) folds is,
)

-- a line, and which it is, after one beginning and before another
pub record IsBetween (from to : LineStart) (place : ℕ) (line : Line) : Type 0 where
  pub first : from.place ≤ place
  pub last : place < to.place
  pub low : from.offset ≤ line.start
  pub some : line.start < line.end
  pub high : line.end ≤ to.offset

pub no_between : (here : LineStart) (place : ℕ) (line : Line) → IsBetween here here place line → ⊥
no_between here place line h = omega (arith, h.first, h.last)

hidden : (a b h : Bool) → ((a && b) && not h) ≡ false → a ≡ true → b ≡ true → h ≡ true
hidden true true true e p q = refl
hidden true true false e p q = absurd (cc)
hidden false b h e p q = absurd (cc)
hidden true false h e p q = absurd (cc)

not_around_first : (a b h : Bool) → a ≡ false → ((a && b) && not h) ≡ false
not_around_first true b h e = absurd (cc)
not_around_first false b h e = refl

not_around_last : (a b h : Bool) → b ≡ false → ((a && b) && not h) ≡ false
not_around_last true true h e = absurd (cc)
not_around_last true false h e = refl
not_around_last false b h e = refl

not_near : (a h : Bool) → h ≡ true → (a && not h) ≡ false
not_near true true e = refl
not_near true false e = absurd (cc)
not_near false h e = refl

-- a label hides the lines after one that it hides, up to where it shows its lines again
hides_on : (limit first last around place k : ℕ) → hides limit first last around place ≡ true → place ≤ k → k < last
    - around → hides limit first last around k ≡ true
hides_on limit first last around place k h le lt =
    let all = and_parts (leb limit (last - first)) (ltb around (place - first) && ltb around (last - place)) h in
    let b : around < place - first = ltb-true around (place - first)
    (and_parts (ltb around (place - first)) (ltb around (last - place)) all.1).0 in
    and_from (leb limit (last - first)) (ltb around (k - first) && ltb around (last - k)) all.0
    (and_from (ltb around (k - first)) (ltb around (last - k)) (lt-ltb around (k - first) (omega (arith, b, le)))
    (lt-ltb around (last - k) (omega (arith, lt))))

-- a label that is not near on the first line is not near on a later one of the gap
far_on : (start : ℕ) (bytes : List ℕ) (limit place k : ℕ) (line other : Line) (e : LineStart) (label : MadeExtent)
    → start ≤ line.end → line.start ≤ line.end → place ≤ k → k < e.place → line.end ≤ other.start → other.end ≤ e.offset
    →
    StopsAt line e (fold_in start bytes label) → is_near_fold limit place line (fold_in start bytes label) ≡ false
    → is_near_fold limit k other (fold_in start bytes label) ≡ false
far_on start bytes limit place k line other e label low some le lt after to stops far =
    let ls : List Line = P.lines_from start bytes in
    let first : ℕ = line_index_of ls label.first in
    let last : ℕ = line_index_of ls label.last in
    let G : Type 0 = is_near_fold limit k other (fold_in start bytes label) ≡ false in
    by_cases {C = G} (leb line.end label.from)
    (λ t.
    let from : line.end ≤ label.from = leb-true line.end label.from t in
    let begun : start + P.line_start bytes (line_index_of (P.lines_from start bytes) label.from) ≤ label.from =
    begun_low start bytes label.from (omega (arith, low, from)) in
    let stop : e.offset ≤ start + P.line_start bytes (line_index_of (P.lines_from start bytes) label.from)
    = stops.0 t in
    not_around_last (ltb other.start label.until) (ltb label.from other.end) (hides limit first last label.around k)
    (le-ltb label.from other.end (omega (arith, begun, stop, to))))
    (λ f.
    let from : label.from < line.end = leb-false line.end label.from f in
    by_cases {C = G} (ltb line.start label.until)
    (λ u.
    let stop : e.place ≤ line_index_of (P.lines_from start bytes) label.last - label.around = stops.1 f u in
    let here : hides limit first last label.around place ≡ true =
    hidden (ltb line.start label.until) (ltb label.from line.end) (hides limit first last label.around place) far u
    (lt-ltb label.from line.end from) in
    not_near (ltb other.start label.until && ltb label.from other.end) (hides limit first last label.around k)
    (hides_on limit first last label.around place k here le (omega (arith, stop, lt))))
    (λ g.
    let until : label.until ≤ line.start = ltb-false line.start label.until g in
    not_around_first (ltb other.start label.until) (ltb label.from other.end) (hides limit first last label.around k)
    (le-ltb other.start label.until (omega (arith, until, some, after)))))

far_all : (start : ℕ) (bytes : List ℕ) (limit place k : ℕ) (line other : Line) (e : LineStart)
    (labels : List MadeExtent) → start ≤ line.end → line.start ≤ line.end → place ≤ k → k < e.place → line.end
    ≤ other.start → other.end ≤ e.offset →
    AllByRecursion (StopsAt line e) (map (fold_in start bytes) labels)
    → list_any (is_near_fold limit place line) (map (fold_in start bytes) labels) ≡ false
    → list_any (is_near_fold limit k other) (map (fold_in start bytes) labels) ≡ false
far_all start bytes limit place k line other e [] low some le lt after to stops far = refl
far_all start bytes limit place k line other e (label ∷ labels) low some le lt after to stops far =
    let own : Bool = is_near_fold limit place line (fold_in start bytes label) in
    let rest : Bool = list_any (is_near_fold limit place line) (map (fold_in start bytes) labels) in
    or_from (is_near_fold limit k other (fold_in start bytes label))
    (list_any (is_near_fold limit k other) (map (fold_in start bytes) labels))
    (far_on start bytes limit place k line other e label low some le lt after to stops.0 (or_parts own rest far).0)
    (far_all start bytes limit place k line other e labels low some le lt after to stops.1 (or_parts own rest far).1)

-- a context that has a byte of the first line and goes on to the end has bytes of each line between
around_on : (line other : Line) (e : LineStart) (fold : Fold) → line.end ≤ other.start → other.start < other.end
    → other.end ≤ e.offset → goes_on line e fold ≡ true → is_around_fold other fold ≡ true
around_on line other e fold after some to h =
    let both = and_parts (is_around_fold line fold) (leb e.offset fold.label.until) h in
    let until : e.offset ≤ fold.label.until = leb-true e.offset fold.label.until both.1 in
    let from : fold.label.from < line.end = ltb-true fold.label.from line.end
    (and_parts (ltb line.start fold.label.until) (ltb fold.label.from line.end) both.0).1 in
    and_from (ltb other.start fold.label.until) (ltb fold.label.from other.end)
    (lt-ltb other.start fold.label.until (omega (arith, some, to, until)))
    (lt-ltb fold.label.from other.end (omega (arith, from, after, some)))

around_all : (line other : Line) (e : LineStart) (folds : List Fold) → line.end ≤ other.start → other.start < other.end
    → other.end ≤ e.offset → list_any (goes_on line e) folds ≡ true → list_any (is_around_fold other) folds ≡ true
around_all line other e [] after some to h = h
around_all line other e (fold ∷ folds) after some to h =
    or_moved (goes_on line e fold) (list_any (goes_on line e) folds) (is_around_fold other fold)
    (list_any (is_around_fold other) folds)
    (around_on line other e fold after some to) (around_all line other e folds after some to) h

abbrev AreAway : ℕ → ℕ → Line → List Fold → Type 0
AreAway limit k other folds = (list_any (is_around_fold other) folds ≡ true)
    × (list_any (is_near_fold limit k other) folds ≡ false)

away_of : (start : ℕ) (bytes : List ℕ) (labels : List MadeExtent) (limit place k : ℕ) (line other : Line)
    (e : LineStart) (some : Bool) → list_any (goes_on line e) (map (fold_in start bytes) labels) ≡ some →
    nearest_stop line None (map (fold_in start bytes) labels) ≡ Some e → start ≤ line.end → line.start ≤ line.end
    → list_any (is_near_fold limit place line) (map (fold_in start bytes) labels) ≡ false →
    IsBetween (next_line place line) (cond some (further (next_line place line) e) (next_line place line)) k other
    → AreAway limit k other (map (fold_in start bytes) labels)
away_of start bytes labels limit place k line other e false goes is low order far h =
    absurd (no_between (next_line place line) k other h)
away_of start bytes labels limit place k line other e true goes is low order far h =
    let folds : List Fold = map (fold_in start bytes) labels in
    let first : place + 1 ≤ k = h.first in
    let last : k < max (place + 1) e.place = h.last in
    let after : line.end ≤ other.start = h.low in
    let some : other.start < other.end = h.some in
    let high : other.end ≤ max line.end e.offset = h.high in
    let to : other.end ≤ e.offset = omega (arith, after, some, high) in (
      around_all line other e folds after some to goes,
      far_all start bytes limit place k line other e labels low order (omega (arith, first))
          (omega (arith, first, last)) after to (stops_all e line None folds is) far,
    )

away_if : (start : ℕ) (bytes : List ℕ) (labels : List MadeExtent) (limit place k : ℕ) (line other : Line)
    (end : Option LineStart) → nearest_stop line None (map (fold_in start bytes) labels) ≡ end → start ≤ line.end
    → line.start ≤ line.end →
    list_any (is_near_fold limit place line) (map (fold_in start bytes) labels) ≡ false →
    IsBetween (next_line place line) (option_map_or (λ e. cond
    (list_any (goes_on line e) (map (fold_in start bytes) labels)) (further (next_line place line) e)
    (next_line place line)) end (next_line place line)) k other →
    AreAway limit k other (map (fold_in start bytes) labels)
away_if start bytes labels limit place k line other None is low order far h =
    absurd (no_between (next_line place line) k other h)
away_if start bytes labels limit place k line other (Some e) is low order far h =
    away_of start bytes labels limit place k line other e (list_any (goes_on line e) (map (fold_in start bytes) labels))
    refl is low order far h

-- each line of the gap is hidden, as its first one is
run_hidden : (start : ℕ) (bytes : List ℕ) (labels : List MadeExtent) (limit place k : ℕ) (line other : Line)
    → start ≤ line.end → line.start ≤ line.end →
    is_hidden limit (P.lines_from start bytes) (map extent_view labels) place line ≡ true
    → IsBetween (next_line place line) (gap_end line (next_line place line) (map (fold_in start bytes) labels)) k
    other →
    is_hidden limit (P.lines_from start bytes) (map extent_view labels) k other ≡ true
run_hidden start bytes labels limit place k line other low order out h =
    let ls : List Line = P.lines_from start bytes in
    let label_extents = map extent_view labels in
    let near : list_any (is_in_fold limit ls place line) label_extents ≡ false =
    not-true (list_any (is_in_fold limit ls place line) label_extents)
    (and_parts (list_any (is_around line) label_extents) (not (list_any (is_in_fold limit ls place line) label_extents))
    out).1 in
    let away : AreAway limit k other (map (fold_in start bytes) labels) =
    away_if start bytes labels limit place k line other (nearest_stop line None (map (fold_in start bytes) labels)) refl
    low order (any_near limit place start bytes line labels ∙ near) h in
    and_from (list_any (is_around other) label_extents) (not (list_any (is_in_fold limit ls k other) label_extents))
    (sym (any_around start bytes other labels) ∙ away.0)
    (ap not (sym (any_near limit k start bytes other labels) ∙ away.1))

pub next_hidden : (start : ℕ) (bytes : List ℕ) (labels : List MadeExtent) (limit place k : ℕ) (line other : Line)
    (jumps : Bool) → start ≤ line.end → line.start ≤ line.end →
    is_hidden limit (P.lines_from start bytes) (map extent_view labels) place line ≡ true
    → IsBetween (next_line place line) (next_line_start (map (fold_in start bytes) labels) place line jumps) k other →
    is_hidden limit (P.lines_from start bytes) (map extent_view labels) k other ≡ true
next_hidden start bytes labels limit place k line other true low order out h =
    run_hidden start bytes labels limit place k line other low order out h
next_hidden start bytes labels limit place k line other false low order out h =
    absurd (no_between (next_line place line) k other h)
