-- Blocks of bytes whose terminators are LF alone.
use Rattle.std.proofs.Common.{◌≡◌, ◌≢◌, ℕ, ◌+◌, ◌-◌, ◌≤◌, Bool, true, false, not, cond, ◌&&◌, ◌||◌, ◌==◌, List}
use Rattle.std.proofs.Common.{slice_index, refl, sym, ap, ap₂, ◌∙◌, inl, inr, arith}
use Rattle.std.proofs.lemmas.Bool.{cases_eq, eq-eqb, ne_eqb}
use Rattle.miette_lines.specs.rules.Lines.{LF, CR, ends_line, line_of}
use Rattle.miette_lines.proofs.Places.{line_of_yes, line_of_no}

-- `feeds` LF and `returns` CR were seen between two offsets: without CR, the LF end the lines
pub record HasFeeds (bytes : List ℕ) (from at feeds returns : ℕ) : Type 0 where
  pub count : returns ≡ 0 → line_of bytes from + feeds ≡ line_of bytes at
  pub few : feeds ≤ at - from
  pub fewer : returns ≤ at - from

pub none_yet : (bytes : List ℕ) (from at : ℕ) → at ≡ from → HasFeeds bytes from at 0 0
none_yet bytes from at e = record {
  count = λ none. omega (arith, ap (line_of bytes) e);
  few = omega arith;
  fewer = omega arith;
}

feed_ends : (b next : ℕ) → b ≡ 10 → ends_line b next ≡ true
unfolding ends_line
feed_ends b next e = ap (λ t. t || ((b == CR) && not (next == LF))) (eq-eqb b 10 e)

text_ends : (b next : ℕ) → b ≢ 10 → b ≢ 13 → ends_line b next ≡ false
unfolding ends_line
text_ends b next f g = ap₂ (λ s t. s || (t && not (next == LF))) (ne_eqb b 10 f) (ne_eqb b 13 g)

most : (t : Bool) (n : ℕ) → n ≡ cond t 1 0 → n ≤ 1
most true n e = omega (arith, e)
most false n e = omega (arith, e)

-- a byte that is no CR ends a line where it is LF
step : (bytes : List ℕ) (at feed back : ℕ) → feed ≡ cond (slice_index bytes at == 10) 1 0
    → back ≡ cond (slice_index bytes at == 13) 1 0 → back ≡ 0 → line_of bytes (at + 1) ≡ line_of bytes at + feed
step bytes at feed back f b none =
    let byte = slice_index bytes at in
    let next = slice_index bytes (at + 1) in
    elim (cases_eq byte 10) [
      | inl lf ↦ (let one : feed ≡ 1 = f ∙ ap (λ t. cond t 1 0) (eq-eqb byte 10 lf) in
          let more : line_of bytes (at + 1) ≡ line_of bytes at + 1 = line_of_yes bytes at (feed_ends byte next lf) in
          omega (arith, one, more))
      | inr nf ↦ (let zero : feed ≡ 0 = f ∙ ap (λ t. cond t 1 0) (ne_eqb byte 10 nf) in
          let text : byte ≢ 13 = λ cr.
          let one : back ≡ 1 = b ∙ ap (λ t. cond t 1 0) (eq-eqb byte 13 cr) in absurd (omega (arith, one, none)) in
          let same : line_of bytes (at + 1) ≡ line_of bytes at =
          line_of_no bytes at (text_ends byte next nf text) in
          omega (arith, zero, same))
    ]

pub one_more : (bytes : List ℕ) (from at next feeds returns feed back : ℕ) → next ≡ at + 1 → from ≤ at
    → HasFeeds bytes from at feeds returns → feed ≡ cond (slice_index bytes at == 10) 1 0
    → back ≡ cond (slice_index bytes at == 13) 1 0 → HasFeeds bytes from next (feeds + feed) (returns + back)
one_more bytes from at next feeds returns feed back is le h f b = record {
  count = λ (e : returns + back ≡ 0).
      let was : line_of bytes from + feeds ≡ line_of bytes at = h.count (omega (arith, e)) in
      let now : line_of bytes (at + 1) ≡ line_of bytes at + feed = step bytes at feed back f b (omega (arith, e)) in
      omega (arith, was, now, ap (line_of bytes) is);
  few = omega (arith, h.few, le, is, most (slice_index bytes at == 10) feed f);
  fewer = omega (arith, h.fewer, le, is, most (slice_index bytes at == 13) back b);
}
