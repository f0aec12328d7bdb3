-- Lines and their ends, one after another.
use Rattle.std.proofs.Common.{◌≡◌, ℕ, zero, suc, ◌+◌, ◌-◌, ◌<◌, ◌≤◌, List, [], ◌∷◌, ◌++◌, length, get_or, map}
use Rattle.std.proofs.Common.{Bor, drop, Option, Some, None, OnOk, Result, Ok, Err, arith, refl, sym, take, ap, ◌∙◌}
use Rattle.std.specs.Prelude.{option_and_then}
use Rattle.std.specs.List.{cons_option, filter_map}
use Rattle.std.specs.Option.{option_copied}
use Rattle.std.proofs.lemmas.List.{length-drop, map-append, nil_from_length}
use Rattle.std.proofs.lemmas.List.Elements.{filter_map-append}
use Rattle.miette_read.proofs.Steps.{next_taken}
use Rattle.miette_read.specs.views.Values.{texts}
use Rattle.miette_read_sarif.specs.rules.Newlines.{end_size, ended_by, nth_line_start, line_size, one_more}
use Rattle.miette_read_sarif.specs.rules.Newlines.{or_usual, text_size, usual_newlines}

-- an offset in the bytes from another one on
pub rest_within : (bytes rest : List ℕ) (at n : ℕ) → at ≤ length bytes → rest ≡ drop at bytes → n ≤ length rest
    → at + n ≤ length bytes
rest_within bytes rest at n room is le = omega (arith, room, le, ap length is, length-drop at bytes)

-- ---- the sequences

pub pushed : {A E : Type 0} (r : Result A E) (old new : List (Bor (List ℕ))) (x : Bor (List ℕ)) (o : Option (List ℕ))
    → option_copied (Some x) ≡ o → OnOk r (new ≡ old ++ x ∷ []) → OnOk r (texts new ≡ texts old ++ cons_option o [])
pushed (Err e) old new x o is h = tt
pushed (Ok a) old new x o is h =
    ap texts h ∙ map-append (λ (y : Bor (List ℕ)). y.now) old (x ∷ []) ∙ ap (λ k. texts old ++ cons_option k []) is

pub sequence_more : {V W Y : Type 0} (look : V → W) (g : W → Option Y) (xs : List V) (i : ℕ) (x : V) → i < length xs
    → x ≡ get_or xs i x → (old new : List Y) → new ≡ old ++ cons_option (g (look x)) []
    → old ≡ filter_map g (map look (take i xs)) → new ≡ filter_map g (map look (take (i + 1) xs))
sequence_more look g xs i x h is old new more before =
    more ∙ ap (λ l. l ++ cons_option (g (look x)) []) before
    ∙ sym (ap (λ l. filter_map g (map look l)) (next_taken xs i x h is)
    ∙ ap (filter_map g) (map-append look (take i xs) (x ∷ []))
    ∙ filter_map-append g (map look (take i xs)) (look x ∷ []))

pub none_listed : (listed : List (Bor (List ℕ))) (ss : List (List ℕ)) → texts listed ≡ ss → length listed ≡ 0
    → usual_newlines ≡ or_usual ss
none_listed listed ss is none = ap or_usual (sym (ap texts (nil_from_length listed none)) ∙ is)

pub some_listed : (listed : List (Bor (List ℕ))) (ss : List (List ℕ)) → texts listed ≡ ss → 0 < length listed
    → texts listed ≡ or_usual ss
some_listed [] ss is some = absurd (omega (arith, some))
some_listed (x ∷ xs) ss is some = ap or_usual is

-- ---- a line's text

module _ (newlines : List (List ℕ)) where
  stopped : (end more : ℕ) → 0 < end → one_more end more ≡ 0
  stopped zero more h = absurd (omega (arith, h))
  stopped (suc end) more h = refl

  -- it stops where a line ends
  pub text_stops : (bytes : List ℕ) → 0 < end_size newlines bytes → text_size newlines bytes ≡ 0
  text_stops [] h = refl
  text_stops (b ∷ bs) h = stopped (end_size newlines (b ∷ bs)) (text_size newlines bs) h

  -- and goes on where none does
  pub text_goes_on : (bytes : List ℕ) (at : ℕ) → at < length bytes → end_size newlines (drop at bytes) ≡ 0
      → text_size newlines (drop at bytes) ≡ text_size newlines (drop (at + 1) bytes) + 1
  text_goes_on [] at h none = absurd (omega (arith, h))
  text_goes_on (b ∷ bs) zero h none =
      let more : suc (text_size newlines bs) ≡ text_size newlines bs + 1 = omega arith in
      let on : 1 ≡ 0 + 1 = omega arith in
      ap (λ n. one_more n (text_size newlines bs)) none ∙ more
      ∙ ap (λ k. text_size newlines (drop k (b ∷ bs)) + 1) on
  text_goes_on (b ∷ bs) (suc i) h none =
      let on : suc (i + 1) ≡ suc i + 1 = omega arith in
      text_goes_on bs i (omega (arith, h)) none ∙ ap (λ k. text_size newlines (drop k (b ∷ bs)) + 1) on

  -- ---- lines

  pub next_line : (bytes : List ℕ) (at left size : ℕ) → 0 < left → Some size ≡ line_size newlines (drop at bytes)
      → nth_line_start newlines bytes at left ≡ nth_line_start newlines bytes (at + size) (left - 1)
  next_line bytes at zero size some is = absurd (omega (arith, some))
  next_line bytes at (suc k) size some is =
      let less : k ≡ suc k - 1 = omega arith in
      ap (option_and_then (λ s. nth_line_start newlines bytes (at + s) k)) (sym is)
      ∙ ap (nth_line_start newlines bytes (at + size)) less

  pub no_line : (bytes : List ℕ) (at left : ℕ) → 0 < left → None ≡ line_size newlines (drop at bytes)
      → nth_line_start newlines bytes at left ≡ None
  no_line bytes at zero some is = absurd (omega (arith, some))
  no_line bytes at (suc k) some is = ap (option_and_then (λ s. nth_line_start newlines bytes (at + s) k)) (sym is)

-- ---- the end of a line

pub not_ended : (text end : ℕ) → end ≡ 0 → None ≡ ended_by text end
not_ended text end none = sym (ap (ended_by text) none)

pub ends_with : (text end : ℕ) → 0 < end → Some (text + end) ≡ ended_by text end
ends_with text zero some = absurd (omega (arith, some))
ends_with text (suc end) some = refl
