-- How a line is cut by its reach, which is found by halving.
use Rattle.std.proofs.Common.{ℕ, zero, suc, ◌+◌, ◌-◌, ◌/◌, ◌<◌, ◌≤◌, ◌≡◌, max, Bool, true, false, cond, ltb, leb}
use Rattle.std.proofs.Common.{List, [], ◌∷◌, ◌++◌, map, length, drop, get_or, refl, sym, ap, ◌∙◌}
use Rattle.std.proofs.Common.{Some, None, option_map, arith}
use Rattle.std.proofs.lemmas.Bool.{lt-ltb, le-ltb, lt-leb, leb-false}
use Rattle.std.proofs.lemmas.List.{at_drop_more, at_drop_all, nil_from_length}
use Rattle.std.proofs.lemmas.List.Sorted.{length_permutation}
use Rattle.std.specs.List.Sorted.{IsPermutation}
use Rattle.miette_lines.proofs.Cases.{by_cases}
use Rattle.miette_columns.specs.rules.Cells.{Cell}
use Rattle.miette_snippet_rules.specs.rules.PrintedCells.{cells_width}
use Rattle.miette_snippet_rules.specs.rules.CutLines.{LinePart, cut_at, cut_by, cut_line, cut_line_by, cut_to}
use Rattle.miette_snippet_rules.specs.rules.CutLines.{has_room, reach_at}
use Rattle.miette_snippet_rules.specs.rules.CutLines.{is_part_shown, is_near, is_within, largest_passing, limit_of}
use Rattle.miette_snippet_rules.specs.rules.CutLines.{prepend_part}
use Rattle.miette_snippet_rules.specs.rules.CutLines.{is_near_after}
use Rattle.miette_snippet_rules.specs.rules.CutLines.{reach_of, line_parts, text_columns, with_short_parts}
use Rattle.miette_snippet_rules.proofs.TextColumns.{largest_is}
use Rattle.miette_snippet_cuts.specs.declared.nearness.CutSettings.{CutSettings}
use Rattle.miette_snippet_rules.specs.declared.line_part.LinePart.{LinePart as MadePart}
use Rattle.miette_snippet_cuts.specs.declared.window.Window.{Window}
use Rattle.miette_snippet_rules.specs.views.Cuts.{measure}
use Rattle.miette_snippet_cuts.specs.steps.LineParts.{kept_made, made_with_short, prepend_made}
use Rattle.miette_snippet_cuts.specs.steps.Counting.{whole_count}
use Rattle.miette_snippet_cuts.specs.steps.Nearness.{near_by}
use Rattle.miette_snippet_cuts.specs.steps.Windows.{HoldsNear}
use Rattle.miette_snippet_cuts.proofs.CountedColumns.{none_counted}
use Rattle.miette_snippet_cuts.proofs.CutStretches.{measure-onto}
use Rattle.miette_snippet_cuts.proofs.NearEnds.{any-moved}
use Rattle.miette_snippet_cuts.proofs.RowWidth.{text_grows}

-- ---- short stretches, and the columns of a row, by counts

short-measured : (many : ℕ) (ss : List LinePart) → made_with_short many (map measure ss)
    ≡ map measure (with_short_parts many ss)
short-measured many [] = refl
short-measured many (s ∷ later) =
    ap (prepend_made (kept_made many (measure s))) (short-measured many later)
    ∙ sym (measure-onto (record { shown = is_part_shown many s; cells = s.cells }) (with_short_parts many later))

-- what is joined of stretches that were swept
pub joined : (many : ℕ) (ss : List LinePart) (near read made : List MadePart) → near ≡ map measure ss → read ≡ near
    → made ≡ made_with_short many read → made ≡ map measure (with_short_parts many ss)
joined many ss near read made n r m =
    m ∙ ap (made_with_short many) (r ∙ n) ∙ short-measured many ss

pub short_more : (many : ℕ) (ss : List MadePart) (i : ℕ) (d : MadePart) (made new whole : List MadePart)
    (reached next later : MadePart) → i < length ss → next ≡ kept_made many (get_or ss i d) →
    ((rest : List MadePart) → new ++ prepend_made later rest ≡ made ++ prepend_made reached (prepend_made next rest)) →
    made ++ prepend_made reached (made_with_short many (drop i ss)) ≡ whole → new
    ++ prepend_made later (made_with_short many (drop (i + 1) ss)) ≡ whole
short_more many ss i d made new whole reached next later lt n put inv =
    let rest : List MadePart = made_with_short many (drop (i + 1) ss) in
    put rest ∙ ap (λ (s : MadePart). made ++ prepend_made reached (prepend_made s rest)) n
    ∙ ap (λ xs. made ++ prepend_made reached xs) (sym (at_drop_more (made_with_short many) ss i d lt)) ∙ inv

pub short_end : (many : ℕ) (ss : List MadePart) (i : ℕ) (made new whole : List MadePart) (reached : MadePart)
    → length ss ≤ i → new ≡ made ++ reached ∷ [] →
    made ++ prepend_made reached (made_with_short many (drop i ss)) ≡ whole → new ≡ whole
short_end many ss i made new whole reached le n inv =
    n ∙ ap (λ xs. made ++ prepend_made reached xs) (sym (at_drop_all (made_with_short many) ss i le)) ∙ inv

-- ---- the reach

abbrev pub leaves_room : ℕ → ℕ → List ℕ → List Cell → ℕ → Bool
leaves_room limit many es cells reach = leb (text_columns many (cut_at many reach es cells)) limit

-- Bounds of the reach: the lower one leaves room, unless it is 0, and none above the upper one does.
pub record IsBetween (passes : ℕ → Bool) (limit low high : ℕ) : Type 0 where
  pub order : low ≤ high
  pub most : high ≤ limit
  pub enough : 0 < low → passes low ≡ true
  pub none : (x : ℕ) → high < x → x ≤ limit → passes x ≡ false

pub between_first : (passes : ℕ → Bool) (limit : ℕ) → IsBetween passes limit 0 limit
between_first passes limit = record {
  order = omega arith;
  most = omega arith;
  enough = λ lt. absurd (omega (arith, lt));
  none = λ x lt le. absurd (omega (arith, lt, le));
}

-- what leaves no room leaves none by more
no_more : (limit many : ℕ) (es : List ℕ) (cells : List Cell) (x y : ℕ) → x ≤ y → leaves_room limit many es cells x
    ≡ false → leaves_room limit many es cells y ≡ false
no_more limit many es cells x y le off =
    let own : ℕ = text_columns many (cut_at many x es cells) in
    let more : ℕ = text_columns many (cut_at many y es cells) in
    lt-leb more limit (omega (arith, leb-false own limit off, text_grows many x y es cells le))

-- one between them
pub halved : (limit many : ℕ) (es : List ℕ) (cells : List Cell) (low high reach next last : ℕ) (enough : Bool)
    → low < high → reach ≡ high - (high - low) / 2 → enough ≡ leaves_room limit many es cells reach →
    (enough ≡ true → (next ≡ reach) × (last ≡ high)) → (enough ≡ false → (next ≡ low) × (last ≡ reach - 1)) →
    IsBetween (leaves_room limit many es cells) limit low high →
    IsBetween (leaves_room limit many es cells) limit next last × (last - next < high - low)
halved limit many es cells low high reach next last enough lt r is on off h =
    let passes : ℕ → Bool = leaves_room limit many es cells in
    let above : low < reach = omega (arith, lt, r) in
    let within : reach ≤ high = omega (arith, r) in
    by_cases {C = IsBetween passes limit next last × (last - next < high - low)} enough
    (λ y.
    let n : next ≡ reach = (on y).0 in
    let l : last ≡ high = (on y).1 in (
      record {
        order = omega (arith, n, l, within);
        most = omega (arith, l, h.most);
        enough = λ some. ap passes n ∙ sym is ∙ y;
        none = λ x past to. h.none x (omega (arith, l, past)) to;
      },
      omega (arith, n, l, lt, above, within),
    ))
    (λ f.
    let n : next ≡ low = (off f).0 in
    let l : last ≡ reach - 1 = (off f).1 in (
      record {
        order = omega (arith, n, l, above);
        most = omega (arith, l, within, h.most);
        enough = λ some. ap passes n ∙ h.enough (omega (arith, n, some));
        none = λ x past to. no_more limit many es cells reach x (omega (arith, l, past)) (sym is ∙ f);
      },
      omega (arith, n, l, lt, above, within),
    ))

-- what is near in a room is what is near by its reach
pub near_room : (room : CutSettings) (es : List ℕ) (cells : List Cell) → 0 < length es →
    with_short_parts room.dots (line_parts (near_by room es) false cells) ≡ cut_at room.dots room.reach es cells
near_room room [] cells some = absurd (omega (arith, some))
near_room room (e ∷ es) cells some = refl

-- what is counted of a window tells whether there is room
window_room : (room : CutSettings) (es : List ℕ) (cells : List Cell) (w : Window) → HoldsNear room.limit es cells w
    → room.reach ≤ room.limit → 0 < length es →
    leb (whole_count room.dots (near_by room es) (record { shown = 0; passed = w.column }) w.walk) room.limit
    ≡ leaves_room room.limit room.dots es cells room.reach
window_room room es cells w h le some =
    ap (λ n. leb n room.limit) (ap (λ n. 0 + n) (h.counts room le) ∙ none_counted room.dots (near_by room es) cells
    ∙ ap (text_columns room.dots) (near_room room es cells some))

-- the same, by what was found of one between them
pub halved_by : (room : CutSettings) (es : List ℕ) (cells : List Cell) (w : Window) (low high next last : ℕ)
    (enough : Bool)
    → low < high → room.reach ≡ high - (high - low) / 2 → 0 < length es → HoldsNear room.limit es cells w → enough
    ≡ leb (whole_count room.dots (near_by room es) (record { shown = 0; passed = w.column }) w.walk) room.limit →
    (enough ≡ true → (next ≡ room.reach) × (last ≡ high)) →
    (enough ≡ false → (next ≡ low) × (last ≡ room.reach - 1)) →
    IsBetween (leaves_room room.limit room.dots es cells) room.limit low high →
    IsBetween (leaves_room room.limit room.dots es cells) room.limit next last × (last - next < high - low)
halved_by room es cells w low high next last enough lt r some held is on off h =
    halved room.limit room.dots es cells low high room.reach next last enough lt r
    (is ∙ window_room room es cells w held (omega (arith, r, h.most)) some) on off h

pub halving_ends : (limit many : ℕ) (es : List ℕ) (cells : List Cell) (low high : ℕ) → high ≤ low
    → IsBetween (leaves_room limit many es cells) limit low high → low ≡ reach_of limit many es cells
halving_ends limit many es cells low high met h =
    sym (largest_is (leaves_room limit many es cells) limit low (omega (arith, h.order, h.most)) h.enough
    (λ x past to. h.none x (omega (arith, met, past)) to))

-- ---- a line with some ends

pub cut_by_room : (room : CutSettings) (limit many : ℕ) (es : List ℕ) (cells : List Cell) → room.limit ≡ limit
    → room.dots
    ≡ many → (0 < length es → room.reach ≡ reach_of limit many es cells) →
    with_short_parts room.dots (line_parts (near_by room es) false cells) ≡ cut_to limit many es cells
cut_by_room room limit many [] cells l d r =
    ap (λ n. with_short_parts n (line_parts (has_room room.limit n) false cells)) d
    ∙ ap (λ n. with_short_parts many (line_parts (has_room n many) false cells)) l
cut_by_room room limit many (e ∷ es) cells l d r =
    ap (λ n. cut_at n room.reach (e ∷ es) cells) d
    ∙ ap (λ n. cut_at many n (e ∷ es) cells) (r (omega arith))

-- the reach of a line that has ends
pub reach_some : (limit many : ℕ) (es : List ℕ) (cells : List Cell) → 0 < length es
    → reach_at limit many es cells ≡ reach_of limit many es cells
reach_some limit many [] cells some = absurd (omega (arith, some))
reach_some limit many (e ∷ es) cells some = refl

-- what is near in a room is what is shown by its reach
pub near_cut : (room : CutSettings) (es : List ℕ) (cells : List Cell)
    → with_short_parts room.dots (line_parts (near_by room es) false cells)
    ≡ cut_by room.limit room.dots room.reach es cells
near_cut room [] cells = refl
near_cut room (e ∷ es) cells = refl

-- ---- ends in another order

stretches_alike : (near other : Cell → Bool) → ((cell : Cell) → near cell ≡ other cell) → (before : Bool)
    (cells : List Cell) → line_parts near before cells ≡ line_parts other before cells
stretches_alike near other h before [] = refl
stretches_alike near other h before (c ∷ cs) =
    let here : Bool = is_near_after other before c in
    ap (λ b. prepend_part (record { shown = is_near_after (λ x. b) before c; cells = c ∷ [] })
    (line_parts near (is_near_after (λ x. b) before c) cs)) (h c)
    ∙ ap (prepend_part (record { shown = here; cells = c ∷ [] })) (stretches_alike near other h here cs)

cut_moved : (many reach : ℕ) (es moved : List ℕ) (cells : List Cell) → IsPermutation es moved
    → cut_at many reach moved cells ≡ cut_at many reach es cells
cut_moved many reach es moved cells h =
    ap (with_short_parts many) (stretches_alike (is_near reach moved) (is_near reach es)
    (λ cell. any-moved (is_within reach cell) es moved h) false cells)

largest_alike : (passes other : ℕ → Bool) (limit : ℕ) → ((n : ℕ) → passes n ≡ other n)
    → largest_passing passes limit ≡ largest_passing other limit
largest_alike passes other zero h = refl
largest_alike passes other (suc n) h =
    ap (λ b. cond b (suc n) (largest_passing passes n)) (h (suc n))
    ∙ ap (λ m. cond (other (suc n)) (suc n) m) (largest_alike passes other n h)

reach_moved : (limit many : ℕ) (es moved : List ℕ) (cells : List Cell) → IsPermutation es moved
    → reach_of limit many moved cells ≡ reach_of limit many es cells
reach_moved limit many es moved cells h =
    largest_alike (leaves_room limit many moved cells) (leaves_room limit many es cells) limit
    (λ reach. ap (λ cut. leb (text_columns many cut) limit) (cut_moved many reach es moved cells h))

pub cut_to_moved : (limit many : ℕ) (es moved : List ℕ) (cells : List Cell) → IsPermutation es moved
    → cut_to limit many moved cells ≡ cut_to limit many es cells
cut_to_moved limit many [] moved cells h =
    let none : moved ≡ [] = nil_from_length moved (length_permutation [] moved h) in
    ap (λ xs. cut_to limit many xs cells) none
cut_to_moved limit many (e ∷ es) [] cells h = absurd (omega (arith, length_permutation (e ∷ es) [] h))
cut_to_moved limit many (e ∷ es) (x ∷ moved) cells h =
    ap (λ n. cut_at many n (x ∷ moved) cells) (reach_moved limit many (e ∷ es) (x ∷ moved) cells h)
    ∙ cut_moved many (reach_of limit many (e ∷ es) cells) (e ∷ es) (x ∷ moved) cells h

pub reach_at_moved : (limit many : ℕ) (es moved : List ℕ) (cells : List Cell) → IsPermutation es moved
    → reach_at limit many moved cells ≡ reach_at limit many es cells
reach_at_moved limit many [] moved cells h =
    let none : moved ≡ [] = nil_from_length moved (length_permutation [] moved h) in
    ap (λ xs. reach_at limit many xs cells) none
reach_at_moved limit many (e ∷ es) [] cells h = absurd (omega (arith, length_permutation (e ∷ es) [] h))
reach_at_moved limit many (e ∷ es) (x ∷ moved) cells h = reach_moved limit many (e ∷ es) (x ∷ moved) cells h

pub cut_by_moved : (limit many reach : ℕ) (es moved : List ℕ) (cells : List Cell) → IsPermutation es moved
    → cut_by limit many reach moved cells ≡ cut_by limit many reach es cells
cut_by_moved limit many reach [] moved cells h =
    let none : moved ≡ [] = nil_from_length moved (length_permutation [] moved h) in
    ap (λ xs. cut_by limit many reach xs cells) none
cut_by_moved limit many reach (e ∷ es) [] cells h = absurd (omega (arith, length_permutation (e ∷ es) [] h))
cut_by_moved limit many reach (e ∷ es) (x ∷ moved) cells h = cut_moved many reach (e ∷ es) (x ∷ moved) cells h

-- ---- whether a line is cut

pub cut_is : (limit many most width : ℕ) (es : List ℕ) (cells : List Cell) (made : List MadePart) → width
    ≡ cells_width 0 cells → most ≡ max 8 limit → most < width → made ≡ map measure (cut_to most many es cells) →
    Some made ≡ option_map (map measure) (cut_line many (Some limit) es cells)
cut_is limit many most width es cells made w m lt h =
    let wider : ltb (limit_of limit) (cells_width 0 cells) ≡ true =
    lt-ltb (limit_of limit) (cells_width 0 cells) (omega (arith, w, m, lt)) in
    ap Some (h ∙ ap (λ n. map measure (cut_to n many es cells)) m)
    ∙ ap (λ b. option_map (map measure) (cond b (Some (cut_to (limit_of limit) many es cells)) None)) (sym wider)

pub cut_none : (limit many most width : ℕ) (es : List ℕ) (cells : List Cell) → width ≡ cells_width 0 cells → most
    ≡ max 8 limit → width ≤ most → None ≡ option_map (map measure) (cut_line many (Some limit) es cells)
cut_none limit many most width es cells w m le =
    let fits : ltb (limit_of limit) (cells_width 0 cells) ≡ false =
    le-ltb (limit_of limit) (cells_width 0 cells) (omega (arith, w, m, le)) in
    ap (λ b. option_map (map measure) (cond b (Some (cut_to (limit_of limit) many es cells)) None)) (sym fits)

-- the same, by a reach that is given
pub cut_by_is : (limit many reach most width : ℕ) (es : List ℕ) (cells : List Cell) (made : List MadePart) → width
    ≡ cells_width 0 cells → most ≡ max 8 limit → most < width → made ≡ map measure (cut_by most many reach es cells) →
    Some made ≡ option_map (map measure) (cut_line_by many limit reach es cells)
cut_by_is limit many reach most width es cells made w m lt h =
    let wider : ltb (limit_of limit) (cells_width 0 cells) ≡ true =
    lt-ltb (limit_of limit) (cells_width 0 cells) (omega (arith, w, m, lt)) in
    ap Some (h ∙ ap (λ n. map measure (cut_by n many reach es cells)) m)
    ∙ ap (λ b. option_map (map measure) (cond b (Some (cut_by (limit_of limit) many reach es cells)) None)) (sym wider)

pub cut_by_none : (limit many reach most width : ℕ) (es : List ℕ) (cells : List Cell) → width ≡ cells_width 0 cells
    → most ≡ max 8 limit → width ≤ most → None ≡ option_map (map measure) (cut_line_by many limit reach es cells)
cut_by_none limit many reach most width es cells w m le =
    let fits : ltb (limit_of limit) (cells_width 0 cells) ≡ false =
    le-ltb (limit_of limit) (cells_width 0 cells) (omega (arith, w, m, le)) in
    ap (λ b. option_map (map measure) (cond b (Some (cut_by (limit_of limit) many reach es cells)) None)) (sym fits)
