-- The stops of a source, line by line, and the offsets that their lines and columns are read as.
use Rattle.std.proofs.Common.{◌≡◌, ⊎_elim, ℕ, zero, suc, ◌+◌, ◌-◌, ◌<◌, ◌≤◌, Bool, true, false, cond}
use Rattle.std.proofs.Common.{eqb, ◌||◌, List, [], ◌∷◌, ◌++◌, length, map, take, drop, Option, Some, None}
use Rattle.std.proofs.Common.{refl, sym, ap, ◌∙◌, arith, subst, add-one, length-drop}
use Rattle.std.specs.Prelude.{option_and_then, option_map, unwrap_or}
use Rattle.std.specs.List.{AllByRecursion, list_all}
use Rattle.std.proofs.lemmas.Bool.{and_parts, le-ltb, lt-ltb}
use Rattle.std.proofs.lemmas.List.{drop-drop, drop-take, map-append, take-append-drop, length-take-le}
use Rattle.bstr.specs.Utf8.{decoded, or_replacement, pieces}
use Rattle.bstr.proofs.lemmas.PieceLemmas.{StartsClean, piece-bounds, pieces-append}
use Rattle.miette_columns.specs.rules.Cells.{Character, characters}
use Rattle.miette_columns.proofs.Stepping.{character, characters_end, characters_step, made}
use Rattle.miette_positions.specs.declared.position.PositionEncoding.{PositionEncoding}
use Rattle.miette_positions.specs.declared.position.Stop.{Stop}
use Rattle.miette_positions.specs.rules.Stops.{stops_after}
use Rattle.miette_positions.specs.rules.Stops.{stops_of, units}
use Rattle.miette_lines.specs.rules.Lines.{is_text}
use Rattle.miette_read_sarif.specs.rules.Newlines.{nth_line_start, line_size, text_size}
use Rattle.miette_read_sarif.specs.rules.Regions.{column_at, offset_at, units_on}
use Rattle.miette_read_laws.specs.laws.RegionsBack.{log_newlines}
use Rattle.miette_read_laws.proofs.RegionsCut.{Cut, first_cut, line_is}
use Rattle.miette_read_laws.proofs.RegionsEnds.{Ends, stop_on, text_first}

-- ---- characters

pub characters_append : (xs ys : List ℕ) → StartsClean ys → characters (xs ++ ys) ≡ characters xs ++ characters ys
characters_append xs ys clean =
    ap (λ ps. map character ps) (pieces-append (length xs) xs ys (omega arith) clean)
    ∙ map-append character (pieces xs) (pieces ys)

plain_dropped : (n : ℕ) (bs : List ℕ) → list_all is_text bs ≡ true → list_all is_text (drop n bs) ≡ true
plain_dropped zero bs h = h
plain_dropped (suc n) [] h = refl
plain_dropped (suc n) (b ∷ bs) h = plain_dropped n bs (and_parts (is_text b) (list_all is_text bs) h).1

cut_clean : (bytes : List ℕ) (size : ℕ) → Cut bytes size → StartsClean (drop size bytes)
cut_clean bytes size c =
    ⊎_elim (λ none. (λ some. absurd (omega (arith, some, ap length none)))) (λ it. it.1.clean) c.after

-- ---- lines, one after another

line_next : (newlines : List (List ℕ)) (bytes : List ℕ) (k from at size : ℕ)
    → nth_line_start newlines bytes from k ≡ Some at → line_size newlines (drop at bytes) ≡ Some size
    → nth_line_start newlines bytes from (suc k) ≡ Some (at + size)
line_next newlines bytes zero from at size there is =
    let same : from ≡ at = cc in
    ap (λ n. nth_line_start newlines bytes n 1) same
    ∙ ap (option_and_then (λ s. nth_line_start newlines bytes (at + s) 0)) is
line_next newlines bytes (suc k) from at size there is =
    by_size (line_size newlines (drop from bytes)) refl
    (λ s before. line_next newlines bytes k (from + s) at size before is)
  where
    by_size : (o : Option ℕ) → line_size newlines (drop from bytes) ≡ o
        → ((s : ℕ) → nth_line_start newlines bytes (from + s) k ≡ Some at
        → nth_line_start newlines bytes (from + s) (suc k) ≡ Some (at + size))
        → nth_line_start newlines bytes from (suc (suc k)) ≡ Some (at + size)
    by_size None e more =
        let nowhere : None ≡ Some at =
        sym (ap (option_and_then (λ s. nth_line_start newlines bytes (from + s) k)) e) ∙ there in
        absurd (cc)
    by_size (Some s) e more =
        ap (option_and_then (λ s. nth_line_start newlines bytes (from + s) (suc k))) e
        ∙ more s (sym (ap (option_and_then (λ s. nth_line_start newlines bytes (from + s) k)) e) ∙ there)

module _ (e : PositionEncoding) where
  -- a character within a line
  stops_inner : (s : Stop) (c : Character) (cs : List Character) (lf cr : Bool) → eqb c.code 10 ≡ lf
      → eqb c.code 13 ≡ cr → (lf || cr) ≡ false → stops_after e s (c ∷ cs)
      ≡ stop_on (s.offset + c.bytes) s.position.line (s.position.column + units e c)
      ∷ stops_after e (stop_on (s.offset + c.bytes) s.position.line (s.position.column + units e c)) cs
  stops_inner s c cs true cr l r h = absurd (cc)
  stops_inner s c cs false true l r h = absurd (cc)
  stops_inner s c cs false false l r h = rw (r, l) refl

  units_more : (at k : ℕ) (c : Character) (cs : List Character)
      → units_on e at (units e c + k) (c ∷ cs) ≡ units_on e (at + c.bytes) k cs
  units_more at k c cs =
      let u : ℕ = units e c in
      let left : u + k - u ≡ k = omega arith in
      ap (λ b. cond b (Some at) (units_on e (at + c.bytes) (u + k - u) cs)) (le-ltb (u + k) u (omega arith))
      ∙ ap (λ n. units_on e (at + c.bytes) n cs) left

module _ (e : PositionEncoding) (wide : (c : Character) → 0 < units e c) where
  -- no column more is here
  units_here : (at : ℕ) (cs : List Character) → units_on e at 0 cs ≡ Some at
  units_here at [] = refl
  units_here at (c ∷ cs) =
      ap (λ b. cond b (Some at) (units_on e (at + c.bytes) (0 - units e c) cs)) (lt-ltb 0 (units e c) (wide c))

module _ (e : PositionEncoding) (bytes : List ℕ) where
  -- its line and column are read as its offset
  abbrev pub Back : Stop → Type 0
  Back s = offset_at e log_newlines bytes (s.position.line + 1) s.position.column ≡ Some s.offset

abbrev member_text : List ℕ → ℕ → List ℕ
member_text bytes at = take (text_size log_newlines (drop at bytes)) (drop at bytes)

-- a line that begins at an offset
module _ (e : PositionEncoding) (wide : (c : Character) → 0 < units e c) (bytes : List ℕ) (at line : ℕ)
    (begins : nth_line_start log_newlines bytes 0 line ≡ Some at) where
  back_on : (off column : ℕ) → units_on e at column (characters (member_text bytes at)) ≡ Some off
      → Back e bytes (stop_on off line column)
  back_on off column is =
      let size : ℕ = text_size log_newlines (drop at bytes) in
      ap (λ n. offset_at e log_newlines bytes n column) (add-one line)
      ∙ ap (option_map (λ start. column_at e log_newlines bytes start column)) begins
      ∙ ap (λ bs. Some (unwrap_or (units_on e at column (characters bs)) (at + size))) (drop-take at size bytes)
      ∙ ap (λ o. Some (unwrap_or o (at + size))) is

  -- where it begins
  back_at : Back e bytes (stop_on at line 0)
  back_at = back_on at 0 (units_here e wide at (characters (member_text bytes at)))

  -- the stops of what is left of its text, and those after it
  walk : (stop f : ℕ) (left : List ℕ) (after : List Character) (off column : ℕ) → length left ≤ f
      → list_all is_text left ≡ true → off + length left ≡ stop
      → ((k : ℕ) → units_on e at (column + k) (characters (member_text bytes at)) ≡ units_on e off k (characters left))
      → ((more : ℕ) → AllByRecursion (Back e bytes) (stops_after e (stop_on stop line more) after))
      → AllByRecursion (Back e bytes) (stops_after e (stop_on off line column) (characters left ++ after))
  walk stop f [] after off column le plain ends reads rest =
      let same : stop ≡ off = omega (arith, ends) in
      subst (λ (cs : List Character).
      AllByRecursion (Back e bytes) (stops_after e (stop_on off line column) (cs ++ after)))
      (sym (characters_end [] refl))
      (subst (λ (n : ℕ). AllByRecursion (Back e bytes) (stops_after e (stop_on n line column) after)) same
      (rest column))
  walk stop zero (b ∷ bs) after off column le plain ends reads rest = absurd (omega (arith, le))
  walk stop (suc f) (b ∷ bs) after off column le plain ends reads rest =
      let some : 0 < length (b ∷ bs) = omega arith in
      let size : ℕ = (decoded (b ∷ bs)).size in
      let code : ℕ = or_replacement (decoded (b ∷ bs)).char in
      let c : Character = made code size in
      let u : ℕ = units e c in
      let left : List ℕ = drop size (b ∷ bs) in
      let bounds = piece-bounds (b ∷ bs) some in
      let len : length left ≡ length (b ∷ bs) - size = length-drop size (b ∷ bs) in
      let step : characters (b ∷ bs) ≡ c ∷ characters left =
      characters_step (b ∷ bs) left code size (record {
        some = some;
        left_is = refl;
        code_is = refl;
        size_is = refl;
      }) in
      let parts = and_parts (is_text b) (list_all is_text bs) plain in
      let on : (k : ℕ) → units_on e at (column + u + k) (characters (member_text bytes at))
      ≡ units_on e (off + size) k (characters left) =
      λ k. (let sums : column + u + k ≡ column + (u + k) = omega arith in
      ap (λ n. units_on e at n (characters (member_text bytes at))) sums ∙ reads (u + k)
      ∙ ap (units_on e off (u + k)) step
      ∙ units_more e off k c (characters left)) in
      let none : column + u ≡ column + u + 0 = omega arith in
      let here : Back e bytes (stop_on (off + size) line (column + u)) =
      back_on (off + size) (column + u) (ap (λ n. units_on e at n (characters (member_text bytes at))) none ∙ on 0
      ∙ units_here e wide (off + size) (characters left)) in
      let others : AllByRecursion (Back e bytes)
      (stops_after e (stop_on (off + size) line (column + u)) (characters left ++ after)) =
      walk stop f left after (off + size) (column + u) (omega (arith, le, len, bounds.0))
      (plain_dropped size (b ∷ bs) plain) (omega (arith, ends, len, bounds.2)) on rest in
      subst (λ (cs : List Character).
      AllByRecursion (Back e bytes) (stops_after e (stop_on off line column) (cs ++ after))) (sym step)
      (subst (AllByRecursion (Back e bytes))
      (sym (stops_inner e (stop_on off line column) c (characters left ++ after) (eqb code 10) (eqb code 13) refl refl
      (text_first b bs size parts.0)))
      (here, others))

module _ (e : PositionEncoding) (wide : (c : Character) → 0 < units e c) (bytes : List ℕ) (at line : ℕ)
    (begins : nth_line_start log_newlines bytes 0 line ≡ Some at) where
  -- the stops of the lines after it, where its text stops
  after_text : (size more : ℕ) → Cut (drop at bytes) size → size ≡ text_size log_newlines (drop at bytes)
      → at ≤ length bytes
      → ((next : ℕ) → at < next → next ≤ length bytes → nth_line_start log_newlines bytes 0 (line + 1) ≡ Some next
      → AllByRecursion (Back e bytes) (stops_after e (stop_on next (line + 1) 0) (characters (drop next bytes))))
      → AllByRecursion (Back e bytes)
      (stops_after e (stop_on (at + size) line more) (characters (drop size (drop at bytes))))
  after_text size more cut is room lines =
      ⊎_elim
      (λ none. subst (λ (cs : List Character).
      AllByRecursion (Back e bytes) (stops_after e (stop_on (at + size) line more) cs))
      (sym (characters_end (drop size (drop at bytes)) none)) tt)
      (λ it. line_end it.0 it.1) cut.after
    where
      line_end : (end : ℕ) → Ends (drop size (drop at bytes)) end → AllByRecursion (Back e bytes)
          (stops_after e (stop_on (at + size) line more) (characters (drop size (drop at bytes))))
      line_end end h =
          let next : ℕ = at + size + end in
          let same : at + (text_size log_newlines (drop at bytes) + end) ≡ next = omega (arith, is) in
          let whole : length (drop at bytes) ≡ length bytes - at = length-drop at bytes in
          let tail : length (drop size (drop at bytes)) ≡ length (drop at bytes) - size =
          length-drop size (drop at bytes) in
          let ends : Ends (drop (text_size log_newlines (drop at bytes)) (drop at bytes)) end =
          subst (λ (n : ℕ). Ends (drop n (drop at bytes)) end) is h in
          let starts : nth_line_start log_newlines bytes 0 (line + 1) ≡ Some next =
          ap (nth_line_start log_newlines bytes 0) (add-one line)
          ∙ line_next log_newlines bytes line 0 at (text_size log_newlines (drop at bytes) + end) begins
          (line_is (drop at bytes) end ends) ∙ ap Some same in
          let here : Back e bytes (stop_on next (line + 1) 0) =
          back_at e wide bytes next (line + 1) starts in
          let left : drop end (drop size (drop at bytes)) ≡ drop next bytes =
          ap (drop end) (drop-drop size at bytes) ∙ drop-drop end (at + size) bytes in
          let others : AllByRecursion (Back e bytes)
          (stops_after e (stop_on next (line + 1) 0) (characters (drop end (drop size (drop at bytes))))) =
          subst (λ (bs : List ℕ).
          AllByRecursion (Back e bytes) (stops_after e (stop_on next (line + 1) 0) (characters bs))) (sym left)
          (lines next (omega (arith, h.some)) (omega (arith, h.within, whole, tail, h.some)) starts) in
          subst (AllByRecursion (Back e bytes)) (sym (h.stops e (stop_on (at + size) line more))) (here, others)

  -- its stops, and those of the lines after it
  line_back : at ≤ length bytes
      → ((next : ℕ) → at < next → next ≤ length bytes → nth_line_start log_newlines bytes 0 (line + 1) ≡ Some next
      → AllByRecursion (Back e bytes) (stops_after e (stop_on next (line + 1) 0) (characters (drop next bytes))))
      → AllByRecursion (Back e bytes) (stops_after e (stop_on at line 0) (characters (drop at bytes)))
  line_back room lines =
      let rest : List ℕ = drop at bytes in
      let size : ℕ = text_size log_newlines rest in
      let cut : Cut rest size = first_cut rest in
      let tail : List ℕ = drop size rest in
      let len : length (member_text bytes at) ≡ size = length-take-le size rest cut.within in
      let clean : StartsClean tail = cut_clean rest size cut in
      let split : characters rest ≡ characters (member_text bytes at) ++ characters tail =
      ap characters (sym (take-append-drop size rest)) ∙ characters_append (member_text bytes at) tail clean in
      subst (λ (cs : List Character). AllByRecursion (Back e bytes) (stops_after e (stop_on at line 0) cs)) (sym split)
      (walk e wide bytes at line begins (at + size) size (member_text bytes at) (characters tail) at 0
      (omega (arith, len))
      cut.plain (omega (arith, len))
      (λ k. (
      let none : 0 + k ≡ k = omega arith in
      ap (λ n. units_on e at n (characters (member_text bytes at))) none
      ))
      (λ more. after_text size more cut refl room lines))

lines_back : (e : PositionEncoding) → ((c : Character) → 0 < units e c) → (bytes : List ℕ) (f at line : ℕ)
    → at ≤ length bytes → length bytes ≤ at + f → nth_line_start log_newlines bytes 0 line ≡ Some at
    → AllByRecursion (Back e bytes) (stops_after e (stop_on at line 0) (characters (drop at bytes)))
lines_back e wide bytes zero at line room le begins =
    line_back e wide bytes at line begins room (λ next later within b. absurd (omega (arith, le, later, within)))
lines_back e wide bytes (suc f) at line room le begins =
    line_back e wide bytes at line begins room
    (λ next later within b. lines_back e wide bytes f next (line + 1) within (omega (arith, le, later)) b)

-- the line and the column of each stop are read as its offset
pub all_back : (e : PositionEncoding) → ((c : Character) → 0 < units e c) → (bytes : List ℕ)
    → AllByRecursion (Back e bytes) (stops_of e bytes)
all_back e wide bytes = (
  back_at e wide bytes 0 0 refl,
  lines_back e wide bytes (length bytes) 0 0 (omega arith) (omega arith) refl,
)
