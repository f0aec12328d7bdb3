-- The first line of bytes: its text, and what ends it.
use Rattle.std.proofs.Common.{◌≡◌, ◌⊎◌, inl, inr, ℕ, zero, suc, ◌+◌, ◌<◌, ◌≤◌, Bool, true, false}
use Rattle.std.proofs.Common.{List, [], ◌∷◌, length, take, drop, Some, refl, sym, ap, ◌∙◌, arith, subst}
use Rattle.std.specs.List.{list_all}
use Rattle.std.proofs.lemmas.Bool.{and_from}
use Rattle.miette_lines.specs.rules.Lines.{is_text}
use Rattle.miette_read_sarif.specs.rules.Newlines.{end_size, ended_by, line_size, one_more, text_size}
use Rattle.miette_read_laws.specs.laws.RegionsBack.{log_newlines}
use Rattle.miette_read_laws.proofs.RegionsEnds.{Ends, ended, no_end}

-- bytes with a line's text of this size in front
pub record Cut (bytes : List ℕ) (size : ℕ) : Type 0 where
  pub within : size ≤ length bytes
  pub plain : list_all is_text (take size bytes) ≡ true
  pub after : (drop size bytes ≡ []) ⊎ ((end : ℕ) × Ends (drop size bytes) end)

cut_more : (b : ℕ) (bs : List ℕ) (size : ℕ) → is_text b ≡ true → Cut bs size → Cut (b ∷ bs) (suc size)
cut_more b bs size h c = record {
  within = omega (arith, c.within);
  plain = and_from (is_text b) (list_all is_text (take size bs)) h c.plain;
  after = c.after;
}

cut_here : (b : ℕ) (bs : List ℕ) → is_text b ≡ false → Cut (b ∷ bs) 0
cut_here b bs h = record { within = omega arith; plain = refl; after = inr (ended b bs h) }

stopped : (end more : ℕ) → 0 < end → one_more end more ≡ 0
stopped zero more h = absurd (omega (arith, h))
stopped (suc end) more h = refl

cut_by : (t : Bool) (b : ℕ) (bs : List ℕ) → is_text b ≡ t → Cut bs (text_size log_newlines bs)
    → Cut (b ∷ bs) (text_size log_newlines (b ∷ bs))
cut_by true b bs h rest =
    subst (λ (n : ℕ). Cut (b ∷ bs) n) (sym (ap (λ n. one_more n (text_size log_newlines bs)) (no_end b bs h)))
    (cut_more b bs (text_size log_newlines bs) h rest)
cut_by false b bs h rest =
    let it = ended b bs h in
    let some : 0 < end_size log_newlines (b ∷ bs) = omega (arith, it.1.some, it.1.read) in
    subst (λ (n : ℕ). Cut (b ∷ bs) n)
    (sym (stopped (end_size log_newlines (b ∷ bs)) (text_size log_newlines bs) some)) (cut_here b bs h)

pub first_cut : (bytes : List ℕ) → Cut bytes (text_size log_newlines bytes)
first_cut [] = record { within = omega arith; plain = refl; after = inl refl }
first_cut (b ∷ bs) = cut_by (is_text b) b bs refl (first_cut bs)

-- ---- the size of a line that ends

with_end : (text end : ℕ) → 0 < end → ended_by text end ≡ Some (text + end)
with_end text zero h = absurd (omega (arith, h))
with_end text (suc end) h = refl

pub line_is : (bytes : List ℕ) (end : ℕ) → Ends (drop (text_size log_newlines bytes) bytes) end
    → line_size log_newlines bytes ≡ Some (text_size log_newlines bytes + end)
line_is bytes end h =
    ap (ended_by (text_size log_newlines bytes)) h.read ∙ with_end (text_size log_newlines bytes) end h.some
