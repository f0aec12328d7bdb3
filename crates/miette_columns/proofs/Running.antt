-- Trails of characters that take no columns in a line's text, and the columns in them.
use Rattle.std.proofs.Common.{ℕ, zero, suc, ◌+◌, ◌-◌, ◌<◌, ◌≤◌, ◌≡◌, true, false, cond, ◌&&◌, inl, inr, List, [], ◌∷◌}
use Rattle.std.proofs.Common.{◌++◌, length, drop, refl, sym, ap, ap₂, subst, ◌∙◌, append_assoc, arith}
use Rattle.std.specs.Prelude.{chars}
use Rattle.std.specs.List.{list_all}
use Rattle.std.proofs.lemmas.Bool.{true≢false, and_parts, cases_lt, cond-true, cond-false, ne_eqb, lt-ltb}
use Rattle.std.proofs.lemmas.List.{drop-drop}
use Rattle.unicode_width.specs.Width.{str_width}
use Rattle.miette_columns.specs.rules.Cells.{Character, characters}
use Rattle.miette_columns.proofs.Stepping.{IsFirst, made, characters_step}
use Rattle.miette_lines.proofs.Cases.{by_cases}
use Rattle.miette_columns.specs.declared.checkpoints.Checkpoint.{Checkpoint}
use Rattle.miette_columns.specs.declared.trails.ZeroWidthRun.{ZeroWidthRun}
use Rattle.miette_columns.specs.rules.Columns.{text_up_to, is_boundary, widths, column}
use Rattle.miette_columns.specs.steps.Checkpoints.{IsCheckpoint}
use Rattle.miette_columns.specs.steps.ZeroWidthRuns.{is_zero_width, AreZeroWidth, IsZeroWidthRun, first_size}
use Rattle.miette_columns.proofs.Columning.{IsNext, begun_more, begun_zero, boundary_more, boundary_inside}
use Rattle.miette_columns.proofs.Columning.{boundary_zero}
use Rattle.miette_columns.proofs.Columning.{after_boundary, after_other, twice_boundary, twice_other}
use Rattle.miette_columns.proofs.FaintCharacters.{faint_after, faint_width}
use Rattle.miette_columns.proofs.SettledTexts.{EndsIn}
use Rattle.miette_columns.proofs.PlaceLaws.{IsSince}

-- ---- fewer of such characters

begun_some : (n : ℕ) (c : Character) (cs : List Character) → 0 < n → text_up_to n (c ∷ cs) ≡ c.code
    ∷ text_up_to (n - c.bytes) cs
begun_some n c cs h = rw (ne_eqb n 0 (λ e. omega (arith, e, h))) refl

all_fewer : (n m : ℕ) (cs : List Character) → m ≤ n → list_all is_zero_width (text_up_to n cs) ≡ true
    → list_all is_zero_width (text_up_to m cs) ≡ true
all_fewer n m [] le h = refl
all_fewer n zero (c ∷ cs) le h = refl
all_fewer n (suc m) (c ∷ cs) le h =
    let more = begun_some n c cs (omega (arith, le)) in
    let fewer = begun_some (suc m) c cs (omega arith) in
    let both = and_parts (is_zero_width c.code) (list_all is_zero_width (text_up_to (n - c.bytes) cs))
    (sym (ap (list_all is_zero_width) more) ∙ h) in
    let rest = all_fewer (n - c.bytes) (suc m - c.bytes) cs (omega (arith, le)) both.1 in
    ap (list_all is_zero_width) fewer ∙ ap₂ (λ a b. a && b) both.0 rest

no_widths : (cs : List ℕ) → list_all is_zero_width cs ≡ true → widths cs ≡ 0
no_widths [] h = refl
no_widths (c ∷ cs) h =
    let both = and_parts (is_zero_width c) (list_all is_zero_width cs) h in
    let own = faint_width c both.0 in
    let rest = no_widths cs both.1 in
    omega (arith, own, rest)

ends_after : (over : List ℕ) (last : ℕ) (cs : List ℕ) → EndsIn over (last ∷ []) → is_zero_width last ≡ true
    → list_all is_zero_width cs ≡ true → str_width false (chars over ++ cs) ≡ str_width false (chars over)
ends_after over last cs ends h all =
    ap (λ o. str_width false (o ++ cs)) ends.is ∙ ap (str_width false) (append_assoc ends.front (last ∷ []) cs)
    ∙ faint_after ends.front cs last h all ∙ sym (ap (str_width false) ends.is)

-- ---- where they end

pub first_bytes : (text : List ℕ) (bytes code size : ℕ)
    → IsFirst (drop bytes text) (drop size (drop bytes text)) code size → size
    ≡ first_size (characters (drop bytes text))
first_bytes text bytes code size is = sym (ap first_size
    (characters_step (drop bytes text) (drop size (drop bytes text)) code size is))

-- such characters lie from one offset up to another
pub record AreSince (text : List ℕ) (from bytes : ℕ) : Type 0 where
  pub after : from ≤ bytes
  pub within : bytes ≤ length text
  pub boundary : (more : ℕ) → is_boundary ((bytes - from) + more) (characters (drop from text))
      ≡ is_boundary more (characters (drop bytes text))
  pub faint : (more : ℕ) → list_all is_zero_width (text_up_to more (characters (drop bytes text))) ≡ true
      → list_all is_zero_width (text_up_to ((bytes - from) + more) (characters (drop from text))) ≡ true

pub none_faint : (text : List ℕ) (from : ℕ) → from ≤ length text → AreSince text from from
none_faint text from le =
    record {
      after = omega arith;
      within = le;
      boundary = λ more. let at : (from - from) + more ≡ more = omega arith in
          ap (λ k. is_boundary k (characters (drop from text))) at;
      faint = λ more h. let at : (from - from) + more ≡ more = omega arith in
          ap (λ k. list_all is_zero_width (text_up_to k (characters (drop from text)))) at ∙ h;
    }

pub one_faint : (text : List ℕ) (from bytes code size : ℕ) → AreSince text from bytes → IsNext text bytes code size
    → is_zero_width code ≡ true → AreSince text from (bytes + size)
one_faint text from bytes code size h next faint =
    let cs = characters (drop size (drop bytes text)) in
    let step = characters_step (drop bytes text) (drop size (drop bytes text)) code size next.first in
    let rest : drop size (drop bytes text) ≡ drop (bytes + size) text = drop-drop size bytes text in
    record {
      after = omega (arith, h.after);
      within = next.within;
      boundary = λ more.
          let at : ((bytes + size) - from) + more ≡ (bytes - from) + (size + more) = omega (arith, h.after) in
          let left : (size + more) - size ≡ more = omega arith in
          ap (λ k. is_boundary k (characters (drop from text))) at ∙ h.boundary (size + more)
          ∙ ap (is_boundary (size + more)) step
          ∙ boundary_more (size + more) code size cs (omega (arith, next.some)) (omega arith)
          ∙ ap (λ k. is_boundary k cs) left ∙ ap (λ r. is_boundary more (characters r)) rest;
      faint = λ more all.
          let at : ((bytes + size) - from) + more ≡ (bytes - from) + (size + more) = omega (arith, h.after) in
          let left : (size + more) - size ≡ more = omega arith in
          let one : text_up_to (size + more) (characters (drop bytes text)) ≡ code ∷ text_up_to more cs =
          ap (text_up_to (size + more)) step ∙ begun_more (size + more) code size cs (omega (arith, next.some))
          ∙ ap (λ k. code ∷ text_up_to k cs) left in
          let others : list_all is_zero_width (text_up_to more cs) ≡ true =
          ap (λ r. list_all is_zero_width (text_up_to more (characters r))) rest ∙ all in
          let every : list_all is_zero_width (code ∷ text_up_to more cs) ≡ true = ap₂ (λ a b. a && b) faint others in
          ap (λ k. list_all is_zero_width (text_up_to k (characters (drop from text)))) at
          ∙ h.faint (size + more) (ap (list_all is_zero_width) one ∙ every);
    }

pub all_faint : (text : List ℕ) (from bytes : ℕ) → AreSince text from bytes → AreZeroWidth text from bytes
all_faint text from bytes h =
    let at : (bytes - from) + 0 ≡ bytes - from = omega arith in
    let cs = characters (drop bytes text) in (
      h.after,
      (
        h.within,
        (
          ap (λ k. is_boundary k (characters (drop from text))) (sym at) ∙ h.boundary 0 ∙ boundary_zero cs,
          ap (λ k. list_all is_zero_width (text_up_to k (characters (drop from text)))) (sym at)
              ∙ h.faint 0 (ap (list_all is_zero_width) (begun_zero cs)),
        ),
      ),
    )

-- ---- a trail after its first character

pub first_trail : (text : List ℕ) (from : Checkpoint) (over : List ℕ) (last : ℕ) (trail : ZeroWidthRun)
    → IsCheckpoint text from
    → IsSince text from over trail.widths trail.bytes → EndsIn over (last ∷ []) → is_zero_width last ≡ true →
    AreZeroWidth text trail.bytes trail.until → trail.column ≡ (from.column + str_width false (chars over)) - from.twice
    → IsZeroWidthRun text trail
first_trail text from over last trail is h ends faint all c = (
  all,
  λ more le.
      let start = drop from.bytes text in
      let cs = characters (drop trail.bytes text) in
      let k = (trail.bytes - from.bytes) + more in
      let it = h.each more in
      let at : trail.bytes + more ≡ from.bytes + k = omega (arith, h.after) in
      let same = ap (λ n. column n (characters text)) at in
      let told = is.1.1 k in
      let few : list_all is_zero_width (text_up_to more cs) ≡ true =
      all_fewer (trail.until - trail.bytes) more cs (omega (arith, le)) all.1.1.1 in
      by_cases {C = column (trail.bytes + more) (characters text)
      ≡ cond (is_boundary more cs) trail.column trail.widths} (is_boundary more cs)
      (λ y.
      let here : is_boundary k (characters start) ≡ true = sym it.boundary ∙ y in
      let wide = ap (str_width false) it.all in
      let only = ends_after over last (text_up_to more cs) ends faint few in
      let after = after_boundary from start k here in
      let twice = twice_boundary from start k here in
      let value : column (trail.bytes + more) (characters text) ≡ trail.column =
      omega (arith, same, told, wide, only, after, twice, c) in
      value ∙ sym (cond-true (is_boundary more cs) trail.column trail.widths y))
      (λ n.
      let here : is_boundary k (characters start) ≡ false = sym it.boundary ∙ n in
      let after = after_other from start k here in
      let none = twice_other from start k here in
      let sums = it.width in
      let no_more = no_widths (text_up_to more cs) few in
      let value : column (trail.bytes + more) (characters text) ≡ trail.widths =
      omega (arith, same, told, after, none, sums, no_more) in
      value ∙ sym (cond-false (is_boundary more cs) trail.column trail.widths n)),
)

fits : (n code size : ℕ) (cs : List Character) → 0 < n → is_boundary n (made code size ∷ cs) ≡ true → size ≤ n
fits n code size cs some h =
    elim (cases_lt n size) [
      | inl less ↦ absurd (true≢false (sym h ∙ boundary_inside n code size cs some less))
      | inr le ↦ le
    ]

faint_tail : (text : List ℕ) (bytes later until code size : ℕ) → AreZeroWidth text bytes until → bytes < until
    → IsFirst (drop bytes text) (drop size (drop bytes text)) code size → later ≡ bytes + size →
    AreZeroWidth text later until
faint_tail text bytes later until code size h some is to =
    let n = until - bytes in
    let cs = characters (drop size (drop bytes text)) in
    let step = characters_step (drop bytes text) (drop size (drop bytes text)) code size is in
    let rest : drop size (drop bytes text) ≡ drop later text = drop-drop size bytes text
    ∙ ap (λ k. drop k text) (omega (arith, to)) in
    let here : is_boundary n (made code size ∷ cs) ≡ true = sym (ap (is_boundary n) step) ∙ h.1.1.0 in
    let pos : 0 < n = omega (arith, some) in
    let fit : size ≤ n = fits n code size cs pos here in
    let left : until - later ≡ n - size = omega (arith, to) in
    let one : text_up_to n (characters (drop bytes text)) ≡ code ∷ text_up_to (n - size) cs = ap (text_up_to n) step
    ∙ begun_more n code size cs pos in
    let both = and_parts (is_zero_width code) (list_all is_zero_width (text_up_to (n - size) cs))
    (sym (ap (list_all is_zero_width) one) ∙ h.1.1.1) in (
      omega (arith, to, some, fit),
      (
        h.1.0,
        (
          subst (λ r. is_boundary (until - later) (characters r) ≡ true) rest
              (ap (λ k. is_boundary k cs) left ∙ sym (boundary_more n code size cs pos fit) ∙ here),
          subst (λ r. list_all is_zero_width (text_up_to (until - later) (characters r)) ≡ true) rest
              (ap (λ k. list_all is_zero_width (text_up_to k cs)) left ∙ both.1),
        ),
      ),
    )

pub next_trail : (text : List ℕ) (trail next : ZeroWidthRun) (code size : ℕ) → IsZeroWidthRun text trail → trail.bytes
    < trail.until
    → IsFirst (drop trail.bytes text) (drop size (drop trail.bytes text)) code size → 0 < size →
    next.bytes ≡ trail.bytes + size → next.until ≡ trail.until → next.column ≡ trail.column → next.widths ≡ trail.widths
    → IsZeroWidthRun text next
next_trail text trail next code size h some is pos b u c w =
    let cs = characters (drop size (drop trail.bytes text)) in
    let step = characters_step (drop trail.bytes text) (drop size (drop trail.bytes text)) code size is in
    let rest : drop size (drop trail.bytes text) ≡ drop next.bytes text = drop-drop size trail.bytes text
    ∙ ap (λ k. drop k text) (omega (arith, b)) in (
      subst (λ k. AreZeroWidth text next.bytes k) (sym u) (faint_tail text trail.bytes next.bytes trail.until code size
          h.0
          some is b),
      λ more le.
          let at : next.bytes + more ≡ trail.bytes + (size + more) = omega (arith, b) in
          let left : (size + more) - size ≡ more = omega arith in
          let told = h.1 (size + more) (omega (arith, b, u, le)) in
          let edge : is_boundary (size + more) (characters (drop trail.bytes text))
          ≡ is_boundary more (characters (drop next.bytes text)) =
          ap (is_boundary (size + more)) step ∙ boundary_more (size + more) code size cs (omega (arith, pos))
          (omega arith) ∙ ap (λ k. is_boundary k cs) left ∙ ap (λ r. is_boundary more (characters r)) rest in
          let there = is_boundary more (characters (drop next.bytes text)) in
          ap (λ k. column k (characters text)) at ∙ told ∙ ap (λ y. cond y trail.column trail.widths) edge
          ∙ ap (λ k. cond there k trail.widths) (sym c) ∙ ap (λ k. cond there next.column k) (sym w),
    )

-- ---- the columns in a trail

pub trail_here : (text : List ℕ) (trail : ZeroWidthRun) (bytes : ℕ) → IsZeroWidthRun text trail → trail.bytes ≡ bytes
    → bytes
    ≤ trail.until → trail.column ≡ column bytes (characters text)
trail_here text trail bytes h e le =
    let cs = characters (drop trail.bytes text) in
    let at : trail.bytes + 0 ≡ bytes = omega (arith, e) in
    let told = h.1 0 (omega (arith, e, le)) in
    sym (cond-true (is_boundary 0 cs) trail.column trail.widths (boundary_zero cs)) ∙ sym told
    ∙ ap (λ k. column k (characters text)) at

inside_first : (k : ℕ) (cs : List Character) → 0 < k → k < first_size cs → is_boundary k cs ≡ false
inside_first k [] some inside = absurd (omega (arith, inside))
inside_first k (c ∷ cs) some inside = rw (ne_eqb k 0 (λ e. omega (arith, e, some)), lt-ltb k c.bytes inside) refl

pub trail_within : (text : List ℕ) (trail : ZeroWidthRun) (bytes : ℕ) → IsZeroWidthRun text trail → trail.bytes < bytes
    → bytes
    ≤ trail.until → bytes < trail.bytes + first_size (characters (drop trail.bytes text)) →
    trail.widths ≡ column bytes (characters text)
trail_within text trail bytes h more le inside =
    let k = bytes - trail.bytes in
    let cs = characters (drop trail.bytes text) in
    let at : trail.bytes + k ≡ bytes = omega (arith, more) in
    let told = h.1 k (omega (arith, at, le)) in
    let edge : is_boundary k cs ≡ false = inside_first k cs (omega (arith, more)) (omega (arith, more, inside)) in
    sym (cond-false (is_boundary k cs) trail.column trail.widths edge) ∙ sym told
    ∙ ap (λ n. column n (characters text)) at
