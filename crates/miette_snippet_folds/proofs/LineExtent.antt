-- How many lines there are, and the greatest number of labels of several lines on one, where gaps are passed over.
use Rattle.std.proofs.Common.{ℕ, suc, ◌+◌, ◌-◌, ◌<◌, ◌≤◌, ◌≡◌, max, Bool, true, false, cond, not, ◌&&◌, ltb, List, []}
use Rattle.std.proofs.Common.{◌∷◌, ◌++◌, length, get_or, drop, ⊎_elim, refl, sym, ap, ◌∙◌, subst, arith}
use Rattle.std.specs.List.{AllByRecursion, filter}
use Rattle.std.proofs.lemmas.Bool.{cases_lt, lt-ltb, ltb-true, ltb-false}
use Rattle.std.proofs.lemmas.List.{drop_all, length-drop}
use Rattle.miette_lines.specs.rules.Lines as P
use Rattle.miette_lines.specs.rules.Lines.{Line, IsCut}
use Rattle.miette_lines.specs.declared.lines.LineOfText.{LineOfText}
use Rattle.miette_lines.specs.views.Walking.{line_of_text}
use Rattle.miette_labels.specs.declared.placed.PlacedLabel.{PlacedLabel}
use Rattle.miette_labels.specs.rules.Labels.{reach}
use Rattle.miette_labels.specs.views.LabelCounts.{most_multi}
use Rattle.miette_labels.specs.views.Sweeping.{passes, is_multi, start_at, AreSorted}
use Rattle.miette_labels.specs.views.ProgramLabels.{no_label}
use Rattle.miette_labels.specs.views.Sweeping.{IsAt, IsOn}
use Rattle.miette_lines.proofs.Cuts.{cut_le}
use Rattle.miette_labels.proofs.Swept.{earlier_multi, inside_past, later_none}
use Rattle.miette_snippet_folds.specs.declared.folds.Fold.{Fold}
use Rattle.miette_snippet_folds.specs.declared.folds.LineStart.{LineStart}
use Rattle.miette_snippet_folds.specs.views.Folding.{AreFoldsIn}
use Rattle.miette_snippet_folds.specs.views.Gaps.{next_line, next_line_start}
use Rattle.miette_snippet_folds.specs.steps.Counting.{begins_before, next_counted}
use Rattle.miette_snippet_folds.proofs.GapLines.{next_begins, next_further}
use Rattle.miette_snippet_folds.proofs.Starts.{Begins, RunOf, begins_end, begins_first, begins_next, run_of}
use Rattle.miette_labels.specs.views.ProgramLabels.{drawn_of}

-- ---- the labels on a later line of a gap

-- a label that begins before a line's end, and lies on a later line with others, goes on past that end
past_first : (line later : Line) (p : PlacedLabel) → line.end ≤ later.start → later.start < later.end → p.start
    < line.end → is_multi later p ≡ true → passes line.end p ≡ true
past_first line later p after some before on =
    let r : ℕ = reach (drawn_of p) in
    let past : passes later.start p ≡ true = sym (earlier_multi later p some (omega (arith, before, after))) ∙ on in
    let over : later.start < r = ltb-true later.start r past in
    lt-ltb line.end r (omega (arith, after, over))

-- so it lies on that line too
on_first : (line later : Line) (p : PlacedLabel) → p.start ≤ p.after → line.start < line.end → line.end ≤ later.start
    → later.start < later.end → p.start < line.end → is_multi later p ≡ true → is_multi line p ≡ true
on_first line later p ok own after some before on =
    let r : ℕ = reach (drawn_of p) in
    let past : passes line.end p ≡ true = past_first line later p after some before on in
    ⊎_elim {C = is_multi line p ≡ true}
    (λ lt. let over : line.end < r = ltb-true line.end r past in earlier_multi line p own lt
    ∙ lt-ltb line.start r (omega (arith, own, over)))
    (λ ge. (inside_past line p ok ge before past).1)
    (cases_lt p.start line.start)

-- a label that begins at a line's end or after it doesn't
not_later : (later : Line) (p : PlacedLabel) → p.start ≤ p.after → later.start < later.end → later.end ≤ p.start
    → is_multi later p ≡ true → ⊥
not_later later p ok some ge on =
    let off : is_multi later p ≡ false = (later_none later p ok some ge).1 in
    absurd (cc)

fewer_step : (a b : Bool) (x : PlacedLabel) (xs ys : List PlacedLabel) → (a ≡ true → b ≡ true) → length xs ≤ length ys
    → length (cond a (x ∷ xs) xs) ≤ length (cond b (x ∷ ys) ys)
fewer_step true true x xs ys h le = omega (arith, le)
fewer_step true false x xs ys h le = let e : false ≡ true = h refl in absurd (cc)
fewer_step false true x xs ys h le = omega (arith, le)
fewer_step false false x xs ys h le = le

fewer : (p q : PlacedLabel → Bool) (xs : List PlacedLabel)
    → ((k : ℕ) → k < length xs → p (get_or xs k no_label) ≡ true → q (get_or xs k no_label) ≡ true)
    → length (filter p xs)
    ≤ length (filter q xs)
fewer p q [] h = omega arith
fewer p q (x ∷ xs) h = fewer_step (p x) (q x) x (filter p xs) (filter q xs) (h 0 (omega arith))
    (fewer p q xs (λ k lt. h (suc k) (omega (arith, lt))))

-- no more labels lie on a line of a gap than on the line before it, where none begins in the gap
few_on : (labels : List PlacedLabel) (line later : Line) (next to : ℕ) → AreSorted labels → line.start < line.end
    → line.end ≤ later.start → later.start < later.end → later.end ≤ to →
    ((k : ℕ) → k < next → start_at labels k < line.end) →
    ((k : ℕ) → next ≤ k → k < length labels → to ≤ start_at labels k) →
    length (filter (is_multi later) labels) ≤ length (filter (is_multi line) labels)
few_on labels line later next to sorted own after some high before clear =
    fewer (is_multi later) (is_multi line) labels (λ k lt on.
    ⊎_elim {C = is_multi line (get_or labels k no_label) ≡ true}
    (λ less. on_first line later (get_or labels k no_label) (sorted.drawn k lt) own after some (before k less) on)
    (λ ge. absurd (not_later later (get_or labels k no_label) (sorted.drawn k lt) some
    (omega (arith, high, clear k ge lt)) on))
    (cases_lt k next))

few_all : (labels : List PlacedLabel) (line : Line) (next to : ℕ) → AreSorted labels → line.start < line.end
    → ((k : ℕ) → k < next → start_at labels k < line.end)
    → ((k : ℕ) → next ≤ k → k < length labels → to ≤ start_at labels k) →
    (run : List Line) (at : ℕ) → IsCut at run to → line.end ≤ at
    → AllByRecursion (λ l. length (filter (is_multi l) labels) ≤ length (filter (is_multi line) labels)) run
few_all labels line next to sorted own before clear [] at cut after = tt
few_all labels line next to sorted own before clear (l ∷ run) at cut after = (
  few_on labels line l next to sorted own (omega (arith, after, cut.0)) (omega (arith, cut.0, cut.3))
      (cut_le l.end run to cut.4) before clear,
  few_all labels line next to sorted own before clear run l.end cut.4 (omega (arith, after, cut.3)),
)

most_run : (labels : List PlacedLabel) (m n : ℕ) (run rest : List Line) → m ≤ n
    → AllByRecursion (λ l. length (filter (is_multi l) labels) ≤ m) run → max n (most_multi labels (run ++ rest))
    ≡ max n (most_multi labels rest)
most_run labels m n [] rest le h = refl
most_run labels m n (l ∷ run) rest le h =
    let own : ℕ = length (filter (is_multi l) labels) in
    let more : ℕ = most_multi labels (run ++ rest) in
    let few : own ≤ m = h.0 in
    let ih : max n more ≡ max n (most_multi labels rest) = most_run labels m n run rest le h.1 in
    let all : max n (max own more) ≡ max n more = omega (arith, few, le) in
    all ∙ ih

-- ---- the loop over the lines

-- the first `place` lines are counted, with the greatest number of labels of several lines on one of them, and the
-- sweep's place
pub record AreCounted (labels : List PlacedLabel) (start : ℕ) (bytes : List ℕ) (at place most next : ℕ)
    (running : List PlacedLabel) : Type 0 where
  pub begun : Begins start bytes (start + at) place
  pub widest : max most (most_multi labels (P.lines_from (start + at) (drop at bytes)))
      ≡ most_multi labels (P.lines_from start bytes)
  pub state : IsAt labels (start + at) next running

none_max : (a : ℕ) → max 0 a ≡ a
none_max a = omega arith

pub counted_first : (labels : List PlacedLabel) (start : ℕ) (bytes : List ℕ) (next : ℕ) (running : List PlacedLabel)
    → IsAt labels start next running → AreCounted labels start bytes 0 0 0 next running
counted_first labels start bytes next running at =
    let sums : start ≡ start + 0 = omega arith in record {
      begun = begins_first start bytes;
      widest = none_max (most_multi labels (P.lines_from (start + 0) bytes))
          ∙ ap (λ n. most_multi labels (P.lines_from n bytes)) (sym sums);
      state = subst (λ (n : ℕ). IsAt labels n next running) sums at;
    }

-- none of the labels begins in a gap that is passed over
clear_of : (labels : List PlacedLabel) (first offset : ℕ) → AreSorted labels → begins_before labels first offset ≡ false
    → (k : ℕ) → first ≤ k → k < length labels → offset ≤ start_at labels k
clear_of labels first offset sorted clear k le lt =
    let inside : ltb first (length labels) ≡ true = lt-ltb first (length labels) (omega (arith, le, lt)) in
    let start : ltb (start_at labels first) offset ≡ false =
    sym (ap (λ b. b && ltb (start_at labels first) offset) inside) ∙ clear in
    omega (arith, ltb-false (start_at labels first) offset start, sorted.order first k le lt)

turned : (a b : Bool) → (a && not b) ≡ true → b ≡ false
turned true true h = absurd (cc)
turned true false h = refl
turned false true h = absurd (cc)
turned false false h = refl

max_turned : (a b c : ℕ) → max (max a b) c ≡ max b (max a c)
max_turned a b c = omega arith

-- the greatest number after a gap
most_after : (labels : List PlacedLabel) (start : ℕ) (bytes : List ℕ) (line : Line) (next most : ℕ)
    (near far : LineStart) (jumps : Bool) → AreSorted labels → line.start < line.end → near.offset ≡ line.end →
    ((k : ℕ) → k < next → start_at labels k < line.end) → length (filter (is_multi line) labels) ≤ most
    → (jumps ≡ false → far ≡ near) → (jumps ≡ true → (k : ℕ) → next ≤ k → k < length labels → far.offset
    ≤ start_at labels k) →
    Begins start bytes near.offset near.place → Begins start bytes far.offset far.place → near.offset ≤ far.offset →
    max most (most_multi labels (P.lines_from near.offset (drop (near.offset - start) bytes)))
    ≡ max most (most_multi labels (P.lines_from far.offset (drop (far.offset - start) bytes)))
most_after labels start bytes line next most near far false sorted own at before few one clear a b le =
    ap (λ (x : LineStart). max most (most_multi labels (P.lines_from x.offset (drop (x.offset - start) bytes))))
    (sym (one refl))
most_after labels start bytes line next most near far true sorted own at before few one clear a b le =
    let r : RunOf start bytes near far = run_of start bytes near far a b le in
    ap (λ ls. max most (most_multi labels ls)) r.parts
    ∙ most_run labels (length (filter (is_multi line) labels)) most r.run
    (P.lines_from far.offset (drop (far.offset - start) bytes)) few
    (few_all labels line next far.offset sorted own before (clear refl) r.run near.offset r.cut (omega (arith, at)))

counted_more_to : (labels : List PlacedLabel) (start : ℕ) (bytes : List ℕ) (at place most most' next next' : ℕ)
    (running on running' : List PlacedLabel) (line : LineOfText) (first : ℕ) (far : LineStart) (jumps : Bool)
    → AreSorted labels →
    AreCounted labels start bytes at place most next running → P.lines_from (start + at) (drop at bytes)
    ≡ line_of_text line ∷ P.lines_from line.end (drop (line.end - start) bytes) → start ≤ line.end → line.start
    < line.end →
    line.end ≤ start + length bytes → IsOn labels (line_of_text line)
    first on → most' ≡ max (length on) most →
    (jumps ≡ false → far ≡ next_line place (line_of_text line))
    → (jumps ≡ true → (k : ℕ) → first ≤ k → k < length labels → far.offset ≤ start_at labels k)
    → Begins start bytes far.offset far.place → line.end ≤ far.offset →
    IsAt labels far.offset next' running' → AreCounted labels start bytes (far.offset - start) far.place most' next'
    running'
counted_more_to labels start bytes at place most most' next next' running on running' line first far jumps sorted h part
    low some to is m one clear b le state =
    let near : LineStart = next_line place (line_of_text line) in
    let a : Begins start bytes line.end (place + 1) = begins_next start bytes at place line h.begun part low to in
    let own : length on ≡ length (filter (is_multi (line_of_text line)) labels) = ap length is.multi in
    let sums : far.offset ≡ start + (far.offset - start) = omega (arith, b.low) in
    let later : List Line = P.lines_from line.end (drop (line.end - start) bytes) in
    let is_past : max most' (most_multi labels later) ≡ max most'
    (most_multi labels (P.lines_from far.offset (drop (far.offset - start) bytes))) =
    most_after labels start bytes (line_of_text line) first most' near far jumps sorted some refl is.before
    (omega (arith, own, m)) one clear a b le in
    record {
      begun = subst (λ (n : ℕ). Begins start bytes n far.place) sums b;
      widest = ap (λ n. max most' (most_multi labels (P.lines_from n (drop (far.offset - start) bytes)))) (sym sums)
          ∙ sym is_past
          ∙ ap (λ n. max n (most_multi labels later)) (m ∙ ap (λ n. max n most) own)
          ∙ max_turned (length (filter (is_multi (line_of_text line)) labels)) most (most_multi labels later)
          ∙ ap (λ ls. max most (most_multi labels ls)) (sym part) ∙ h.widest;
      state = subst (λ (n : ℕ). IsAt labels n next' running') sums state;
    }

-- without a jump it goes to the next line
pub not_jumped : (folds : List Fold) (place : ℕ) (line : Line) (jumps : Bool) → jumps ≡ false
    → next_line_start folds place line jumps ≡ next_line place line
not_jumped folds place line true e = absurd (cc)
not_jumped folds place line false e = refl

-- a jump goes where a program looked before
jumped : (folds : List Fold) (place : ℕ) (line : Line) (jumps : Bool) → jumps ≡ true
    → next_line_start folds place line jumps
    ≡ next_line_start folds place line true
jumped folds place line true e = refl
jumped folds place line false e = absurd (cc)

pub counted_more : (labels : List PlacedLabel) (start : ℕ) (bytes : List ℕ) (folds : List Fold)
    (at place most most' next next' : ℕ) (running on running' : List PlacedLabel) (line : LineOfText) (first : ℕ)
    (inside : Bool) (far : LineStart) → AreSorted labels →
    AreFoldsIn start bytes folds → AreCounted labels start bytes at place most next running →
    P.lines_from (start + at) (drop at bytes) ≡ line_of_text line
    ∷ P.lines_from line.end (drop (line.end - start) bytes) → start ≤ line.end → line.start < line.end → line.end
    ≤ start + length bytes →
    IsOn labels (line_of_text line) first on → most'
    ≡ max (length on) most →
    far ≡ next_counted labels first inside folds place (line_of_text line) →
    IsAt labels far.offset next' running' → AreCounted labels start bytes (far.offset - start) far.place most' next'
    running'
counted_more labels start bytes folds at place most most' next next' running on running' line first inside far sorted
    fold h part low some to is m e state =
    let l : Line = line_of_text line in
    let offset : ℕ = (next_line_start folds place l true).offset in
    let jumps : Bool = inside && not (begins_before labels first offset) in
    let a : Begins start bytes line.end (place + 1) = begins_next start bytes at place line h.begun part low to in
    let b : Begins start bytes far.offset far.place = subst (λ (x : LineStart). Begins start bytes x.offset x.place)
    (sym e) (next_begins start bytes fold.labels folds place l jumps fold.are a) in
    let le : line.end ≤ far.offset = subst (λ (x : LineStart). line.end ≤ x.offset) (sym e)
    (next_further folds place l jumps) in
    let clear : jumps ≡ true → (k : ℕ) → first ≤ k → k < length labels → far.offset ≤ start_at labels k =
    (λ t k ge lt.
    let same : far.offset ≡ offset = ap (λ (x : LineStart). x.offset) (e ∙ jumped folds place l jumps t) in
    omega (
      arith,
      same,
      clear_of labels first offset sorted (turned inside (begins_before labels first offset) t) k ge
          lt,
    )) in
    counted_more_to labels start bytes at place most most' next next' running on running' line first far jumps sorted h
    part low some to is m (λ f. e ∙ not_jumped folds place l jumps f) clear b le state

-- the lines after one are counted at once, where no label begins after it
pub counted_rest : (labels : List PlacedLabel) (start : ℕ) (bytes : List ℕ) (at place most most' next next' : ℕ)
    (running on running' : List PlacedLabel) (line : LineOfText) (first : ℕ) (far : LineStart) → AreSorted labels →
    AreCounted labels start bytes at place most next running →
    P.lines_from (start + at) (drop at bytes) ≡ line_of_text line
    ∷ P.lines_from line.end (drop (line.end - start) bytes) → start ≤ line.end → line.start < line.end → line.end
    ≤ start + length bytes →
    IsOn labels (line_of_text line) first on → most'
    ≡ max (length on) most → begins_before labels first (start + length bytes) ≡ false →
    far.offset ≡ start + length bytes → far.place ≡ place + 1
    + length (P.lines_from line.end (drop (line.end - start) bytes)) →
    IsAt labels far.offset next' running' → AreCounted labels start bytes (far.offset - start) far.place most' next'
    running'
counted_rest labels start bytes at place most most' next next' running on running' line first far sorted h part low some
    to is m none end all state =
    let ls : List Line = P.lines_from start bytes in
    let a : Begins start bytes line.end (place + 1) = begins_next start bytes at place line h.begun part low to in
    let is_past : length (drop (place + 1) ls) ≡ length ls - (place + 1) = length-drop (place + 1) ls in
    let same : length (drop (place + 1) ls) ≡ length (P.lines_from line.end (drop (line.end - start) bytes)) =
    ap length a.lines in
    let b : Begins start bytes far.offset far.place = begins_end start bytes far.offset far.place end
    (omega (arith, all, is_past, same, a.count)) in
    counted_more_to labels start bytes at place most most' next next' running on running' line first far true sorted h
    part low some to is m (λ f. absurd (cc))
    (λ t k ge lt. let clear : start + length bytes ≤ start_at labels k =
    clear_of labels first (start + length bytes) sorted none k ge lt in omega (arith, end, clear))
    b (omega (arith, to, end)) state

max_none : (a : ℕ) → max a 0 ≡ a
max_none a = omega arith

-- all lines are counted
pub all_counted : (labels : List PlacedLabel) (start : ℕ) (bytes : List ℕ) (at place most next : ℕ)
    (running : List PlacedLabel) → AreCounted labels start bytes at place most next running → length bytes ≤ at →
    (place ≡ length (P.lines_from start bytes)) × (most ≡ most_multi labels (P.lines_from start bytes))
all_counted labels start bytes at place most next running h over =
    let none : drop at bytes ≡ [] = drop_all at bytes over in
    let same : start + at - start ≡ at = omega arith in
    let left : drop place (P.lines_from start bytes) ≡ [] = h.begun.lines
    ∙ ap (λ n. P.lines_from (start + at) (drop n bytes)) same ∙ ap (P.lines_from (start + at)) none in
    let size : length (drop place (P.lines_from start bytes)) ≡ length (P.lines_from start bytes) - place =
    length-drop place (P.lines_from start bytes) in
    let zero' : length (drop place (P.lines_from start bytes)) ≡ 0 = ap length left in (
      omega (arith, size, zero', h.begun.count),
      sym (max_none most)
          ∙ ap (λ xs. max most (most_multi labels (P.lines_from (start + at) xs))) (sym none) ∙ h.widest,
    )
