-- The labels that a line may touch, among all of a snippet.
use Rattle.std.proofs.Common.{ℕ, zero, suc, ◌+◌, ◌-◌, ◌<◌, ◌≤◌, ◌≡◌, min, Bool, true, false, cond, ◌&&◌, ◌||◌, List}
use Rattle.std.proofs.Common.{[], ◌∷◌, ◌++◌, length, map, take, drop, get_or, Option, Some, None, refl}
use Rattle.std.proofs.Common.{sym, ap, ap₂, ◌∙◌, ltb, leb, ⊎_elim, arith}
use Rattle.std.specs.List.{list_any}
use Rattle.std.specs.Option.{option_map_or}
use Rattle.std.proofs.lemmas.Bool.{cases_lt, le-ltb, lt-leb, le-leb}
use Rattle.std.proofs.lemmas.List.{drop_all, drop_more, drop-drop, get_or-append-add, get_or-drop, get_or-map}
use Rattle.std.proofs.lemmas.List.{get_or_append_left, length-append, length-drop, length-map, take-append-drop}
use Rattle.std.proofs.Math.Bool.{and-false}
use Rattle.miette_lines.specs.rules.Lines.{Line}
use Rattle.miette_snippet_folds.specs.declared.folds.Fold.{Fold}
use Rattle.miette_snippet_folds.specs.declared.folds.LineStart.{LineStart}
use Rattle.miette_snippet_folds.specs.declared.folds.LabelExtent.{LabelExtent as MadeExtent}
use Rattle.miette_snippet_folds.specs.views.Folding.{fold_in, is_around_fold}
use Rattle.miette_snippet_folds.specs.views.Gaps.{further, gap_end, goes_on, nearest, nearer_stop, nearest_stop}
use Rattle.miette_snippet_folds.specs.views.NearFolds.{first_begun}
use Rattle.miette_snippet_folds.specs.views.ExtentIndexes.{IsWindow}
use Rattle.miette_snippet_folds.proofs.AroundLines.{any-dropped, any-taken}

-- ---- the labels of folds

pub labels_of : (start : ℕ) (bytes : List ℕ) (labels : List MadeExtent)
    → map (λ (f : Fold). f.label) (map (fold_in start bytes) labels) ≡ labels
labels_of start bytes [] = refl
labels_of start bytes (label ∷ labels) = ap (λ ls. label ∷ ls) (labels_of start bytes labels)

-- the labels before one end before a line, and those from another one on begin after it
pub record IsNear (line : Line) (folds : List Fold) (first after : ℕ) : Type 0 where
  pub order : first ≤ after
  pub within : after ≤ length folds
  pub until : (k : ℕ) (d : Fold) → k < first → (get_or folds k d).label.until ≤ line.start
  pub begun : (k : ℕ) (d : Fold) → k < first → (get_or folds k d).label.from < line.end
  pub from : (k : ℕ) (d : Fold) → after ≤ k → k < length folds → line.end ≤ (get_or folds k d).label.from

pub near_window : (line : Line) (folds : List Fold) (first after : ℕ)
    → IsWindow line.start line.end (map (λ (f : Fold). f.label) folds) first after → IsNear line folds first after
near_window line folds first after w = record {
  order = w.order;
  within = within;
  until = λ k d lt. omega (
    arith,
    ap (λ (s : MadeExtent). s.until) (label k d (omega (arith, lt, w.order, within))),
    w.until k d.label lt,
  );
  begun = λ k d lt. omega (
    arith,
    ap (λ (s : MadeExtent). s.from) (label k d (omega (arith, lt, w.order, within))),
    w.begun k d.label lt,
  );
  from = λ k d ge lt. omega (
    arith,
    ap (λ (s : MadeExtent). s.from) (label k d lt),
    w.from k d.label ge (omega (arith, lt, length-map folds (λ (f : Fold). f.label))),
  );
}
  where
    within : after ≤ length folds
    within = omega (arith, w.within, length-map folds (λ (f : Fold). f.label))

    label : (k : ℕ) (d : Fold) → k < length folds → get_or (map (λ (f : Fold). f.label) folds) k d.label
        ≡ (get_or folds k d).label
    label k d lt = get_or-map (λ (f : Fold). f.label) folds k d d.label lt

-- ---- whether some are around a line

around_before : (line : Line) (fold : Fold) (test : Bool) → fold.label.until ≤ line.start
    → (is_around_fold line fold && test) ≡ false
around_before line fold test le =
    ap (λ b. (b && ltb fold.label.from line.end) && test) (le-ltb line.start fold.label.until le)

around_after : (line : Line) (fold : Fold) (test : Bool) → line.end ≤ fold.label.from
    → (is_around_fold line fold && test) ≡ false
around_after line fold test le =
    ap (λ b. (ltb line.start fold.label.until && b) && test) (le-ltb fold.label.from line.end le)
    ∙ ap (λ b. b && test) (and-false (ltb line.start fold.label.until))

and_true : (b : Bool) → b ≡ (b && true)
and_true true = refl
and_true false = refl

pub around_alone : (line : Line) (folds : List Fold) → list_any (is_around_fold line) folds
    ≡ list_any (λ f. is_around_fold line f && true) folds
around_alone line [] = refl
around_alone line (f ∷ folds) = ap₂ (λ a b. a || b) (and_true (is_around_fold line f)) (around_alone line folds)

pub around_near : (line : Line) (all near : List Fold) (first after : ℕ) (test : Fold → Bool)
    → IsNear line all first after → near ≡ take (after - first) (drop first all) →
    list_any (λ f. is_around_fold line f && test f) near ≡ list_any (λ f. is_around_fold line f && test f) all
around_near line all near first after test w is =
    let p : Fold → Bool = λ f. is_around_fold line f && test f in
    let rest : List Fold = drop first all in
    ap (list_any p) is
    ∙ any-taken p rest (after - first) (λ k d ge inside.
    let later : first + k < length all = omega (arith, inside, length-drop first all) in
    ap p (get_or-drop first all k d) ∙ around_after line (get_or all (first + k) d) (test (get_or all (first + k) d))
    (w.from (first + k) d (omega (arith, ge)) later))
    ∙ any-dropped p all first (λ k d lt inside. around_before line (get_or all k d) (test (get_or all k d))
    (w.until k d lt))

-- ---- the nearest stop

-- the nearer one of a stop and another one, if there is one
abbrev nearer_of : Option LineStart → Option LineStart → Option LineStart
nearer_of end None = end
nearer_of end (Some stop) = Some (nearest end stop)

abbrev some_start : ℕ → ℕ → Option LineStart
some_start offset place = Some (record { offset = offset; place = place })

least : (a b c : ℕ) → min (min a b) c ≡ min (min a c) b
least a b c = omega arith

turned : (a b : ℕ) → min a b ≡ min b a
turned a b = omega arith

joined : (a b c : ℕ) → min (min a b) c ≡ min a (min c b)
joined a b c = omega arith

-- in which order two more come is the same
swapped : (end stop : Option LineStart) (x : LineStart) → Some (nearest (nearer_of end stop) x)
    ≡ nearer_of (Some (nearest end x)) stop
swapped end None x = refl
swapped None (Some s) x =
    ap₂ some_start (turned s.offset x.offset)
    (turned s.place x.place)
swapped (Some e) (Some s) x =
    ap₂ some_start (least e.offset s.offset x.offset)
    (least e.place s.place x.place)

-- and whether they come alone
together : (end : Option LineStart) (x : LineStart) (stop : Option LineStart) → nearer_of (Some (nearest end x)) stop
    ≡ Some (nearest end (nearest stop x))
together end x None = refl
together None x (Some s) =
    ap₂ some_start (turned x.offset s.offset)
    (turned x.place s.place)
together (Some e) x (Some s) =
    ap₂ some_start (joined e.offset x.offset s.offset)
    (joined e.place x.place s.place)

none_nearer : (stop : Option LineStart) → nearer_of None stop ≡ stop
none_nearer None = refl
none_nearer (Some s) = refl

-- a stop that is known first or last
one_later : (begun around : Bool) (end stop : Option LineStart) (x y : LineStart) →
    cond begun (Some (nearest (nearer_of end stop) x)) (cond around (Some (nearest (nearer_of end stop) y))
    (nearer_of end stop))
    ≡ nearer_of (cond begun (Some (nearest end x)) (cond around (Some (nearest end y)) end)) stop
one_later true around end stop x y = swapped end stop x
one_later false true end stop x y = swapped end stop y
one_later false false end stop x y = refl

stop_later : (line : Line) (folds : List Fold) (end stop : Option LineStart)
    → nearest_stop line (nearer_of end stop) folds ≡ nearer_of (nearest_stop line end folds) stop
stop_later line [] end stop = refl
stop_later line (f ∷ folds) end stop =
    ap (λ e. nearest_stop line e folds)
    (one_later (leb line.end f.label.from) (ltb line.start f.label.until) end stop f.begun f.resumed)
    ∙ stop_later line folds (nearer_stop line end f) stop

stop_joined : (line : Line) (xs ys : List Fold) (end : Option LineStart) → nearest_stop line end (xs ++ ys)
    ≡ nearest_stop line (nearest_stop line end xs) ys
stop_joined line [] ys end = refl
stop_joined line (x ∷ xs) ys end = stop_joined line xs ys (nearer_stop line end x)

-- labels that end before a line stop nothing
stop_before : (line : Line) (f : Fold) (end : Option LineStart) → f.label.until ≤ line.start → f.label.from < line.end
    → nearer_stop line end f ≡ end
stop_before line f end le lt =
    ap₂ (λ a b. cond a (Some (nearest end f.begun)) (cond b (Some (nearest end f.resumed)) end))
    (lt-leb line.end f.label.from lt) (le-ltb line.start f.label.until le)

stop_dropped : (line : Line) (folds : List Fold) (n : ℕ) (end : Option LineStart)
    → ((k : ℕ) (d : Fold) → k < n → (get_or folds k d).label.until ≤ line.start)
    → ((k : ℕ) (d : Fold) → k < n → (get_or folds k d).label.from < line.end) →
    nearest_stop line end (drop n folds) ≡ nearest_stop line end folds
stop_dropped line folds zero end u b = refl
stop_dropped line [] (suc n) end u b = refl
stop_dropped line (f ∷ folds) (suc n) end u b =
    stop_dropped line folds n end (λ k d lt. u (suc k) d (omega (arith, lt)))
    (λ k d lt. b (suc k) d (omega (arith, lt)))
    ∙ ap (λ e. nearest_stop line e folds) (sym (stop_before line f end (u 0 f (omega arith)) (b 0 f (omega arith))))

-- of labels that begin after a line each stops lines where its context begins
stop_after_all : (line : Line) (folds : List Fold) (end : Option LineStart)
    → ((k : ℕ) (d : Fold) → k < length folds → line.end ≤ (get_or folds k d).label.from) →
    nearest_stop line end folds ≡ nearer_of end (first_begun folds)
stop_after_all line [] end h = refl
stop_after_all line (f ∷ folds) end h =
    ap (λ b. nearest_stop line (cond b (Some (nearest end f.begun)) (cond (ltb line.start f.label.until)
    (Some (nearest end f.resumed)) end)) folds) (le-leb line.end f.label.from (h 0 f (omega arith)))
    ∙ stop_after_all line folds (Some (nearest end f.begun)) (λ k d lt. h (suc k) d (omega (arith, lt)))
    ∙ together end f.begun (first_begun folds)

pub stop_near : (line : Line) (all near : List Fold) (first after : ℕ) (stop : Option LineStart)
    → IsNear line all first after → near ≡ take (after - first) (drop first all) → stop
    ≡ first_begun (drop after all) →
    nearest_stop line stop near ≡ nearest_stop line None all
stop_near line all near first after stop w is s =
    let rest : List Fold = drop first all in
    let some : List Fold = take (after - first) rest in
    let later : List Fold = drop (after - first) rest in
    let sums : first + (after - first) ≡ after = omega (arith, w.order) in
    let same : later ≡ drop after all = drop-drop (after - first) first all ∙ ap (λ n. drop n all) sums in
    let own : stop ≡ first_begun later = s ∙ ap first_begun (sym same) in
    let afters : nearest_stop line (nearest_stop line None some) later
    ≡ nearer_of (nearest_stop line None some) (first_begun later) =
    stop_after_all line later (nearest_stop line None some) (λ k d lt.
    let at : get_or later k d ≡ get_or all (after + k) d = ap (λ xs. get_or xs k d) same ∙ get_or-drop after all k d
    in
    let inside : after + k < length all = omega (arith, lt, ap length same, length-drop after all) in
    omega (arith, ap (λ (f : Fold). f.label.from) at, w.from (after + k) d (omega arith) inside)) in
    ap₂ (λ e xs. nearest_stop line e xs) (own ∙ sym (none_nearer (first_begun later))) is
    ∙ stop_later line some None (first_begun later)
    ∙ sym afters ∙ sym (stop_joined line some later None)
    ∙ ap (nearest_stop line None) (take-append-drop (after - first) rest)
    ∙ stop_dropped line all first None w.until w.begun

-- ---- where a gap ends

pub gap_none : (line : Line) (next : LineStart) (folds : List Fold) (end : Option LineStart)
    → end ≡ nearest_stop line None folds → end ≡ None → next ≡ gap_end line next folds
gap_none line next folds end h none =
    ap (λ o. option_map_or (λ e. cond (list_any (goes_on line e) folds) (further next e) next) o next) (sym none ∙ h)

pub gap_some : (line : Line) (next e : LineStart) (folds : List Fold) (end : Option LineStart) (some : Bool)
    → end ≡ nearest_stop line None folds → end ≡ Some e → some ≡ list_any (goes_on line e) folds →
    cond some (further next e) next ≡ gap_end line next folds
gap_some line next e folds end some h is goes =
    ap (λ b. cond b (further next e) next) goes
    ∙ ap (λ o. option_map_or (λ x. cond (list_any (goes_on line x) folds) (further next x) next) o next) (sym is ∙ h)

-- ---- the stops, label by label

pub record AreSomeStops (folds : List Fold) (made : List LineStart) (count : ℕ) (least : Option LineStart) : Type 0
  where
    pub many : length made ≡ count
    pub stop : (k : ℕ) (d : LineStart) → k < count → Some (get_or made k d)
        ≡ first_begun (drop (length folds - (k + 1)) folds)
    pub last : least ≡ first_begun (drop (length folds - count) folds)

pub stops_none : (folds : List Fold) (made : List LineStart) → made ≡ [] → AreSomeStops folds made 0 None
stops_none folds made e = record {
  many = ap length e;
  stop = λ k d lt. absurd (omega (arith, lt));
  last = sym (ap first_begun (drop_all (length folds - 0) folds (omega arith)));
}

pub stops_more : (folds : List Fold) (made new : List LineStart) (many : ℕ) (last : Option LineStart)
    (stop : LineStart) (own : Fold) → many < length folds → new ≡ made ++ stop ∷ [] →
    stop ≡ nearest last (get_or folds (length folds - 1 - many) own).begun → AreSomeStops folds made many last →
    AreSomeStops folds new (many + 1) (Some stop)
stops_more folds made new many last stop own some e is h = record {
  many = omega (arith, ap length e, length-append made (stop ∷ []), h.many);
  stop = λ k d lt.
      ⊎_elim {C = Some (get_or new k d) ≡ first_begun (drop (length folds - (k + 1)) folds)}
      (λ less.
      ap Some (ap (λ xs. get_or xs k d) e ∙ get_or_append_left made (stop ∷ []) d k (omega (arith, h.many, less)))
      ∙ h.stop k d less)
      (λ ge.
      let at : k ≡ length made + 0 = omega (arith, ge, lt, h.many) in
      let same : length folds - (many + 1) ≡ length folds - (k + 1) = omega (arith, ge, lt) in
      ap Some (ap (λ xs. get_or xs k d) e ∙ ap (λ i. get_or (made ++ stop ∷ []) i d) at
      ∙ get_or-append-add made (stop ∷ []) 0 d)
      ∙ newest ∙ ap (λ n. first_begun (drop n folds)) same)
      (cases_lt k many);
  last = newest;
}
  where
    newest : Some stop ≡ first_begun (drop (length folds - (many + 1)) folds)
    newest =
        let at : ℕ = length folds - (many + 1) in
        let here : at < length folds = omega (arith, some) in
        let next : at + 1 ≡ length folds - many = omega (arith, some) in
        let same : length folds - 1 - many ≡ at = omega arith in
        let cut : drop at folds ≡ get_or folds at own ∷ drop (length folds - many) folds =
        drop_more folds at own here ∙ ap (λ n. get_or folds at own ∷ drop n folds) next in
        ap Some (is ∙ ap₂ (λ l i. nearest l (get_or folds i own).begun) h.last same)
        ∙ ap first_begun (sym cut)
