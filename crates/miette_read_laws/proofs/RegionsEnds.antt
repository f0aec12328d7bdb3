-- What ends a line, as stops have it and as it is read.
use Rattle.std.proofs.Common.{◌≡◌, ◌≢◌, ◌⊎◌, ⊎_elim, ℕ, ◌+◌, ◌<◌, ◌≤◌, Bool, true, false, cond}
use Rattle.std.proofs.Common.{eqb, List, [], ◌∷◌, ◌++◌, length, drop, Option, Some, None}
use Rattle.std.proofs.Common.{refl, sym, ap, ◌∙◌, arith, subst}
use Rattle.std.specs.Char.{encode_utf8}
use Rattle.std.proofs.lemmas.Bool.{eqb-true, lt-ltb, ne_eqb}
use Rattle.std.proofs.lemmas.Bool.Decides.{nat_tests}
use Rattle.bstr.specs.Utf8.{decoded, or_replacement}
use Rattle.bstr.proofs.lemmas.PieceLemmas.{StartsClean}
use Rattle.bstr.proofs.lemmas.SoundLemmas.{SpellsChar-decoded}
use Rattle.miette_columns.specs.rules.Cells.{characters}
use Rattle.miette_columns.proofs.Plaining.{ascii_decoded}
use Rattle.miette_columns.proofs.Stepping.{characters_end, characters_step, made}
use Rattle.miette_positions.specs.declared.position.PositionEncoding.{PositionEncoding}
use Rattle.miette_positions.specs.declared.position.Stop.{Stop}
use Rattle.miette_positions.specs.rules.Stops.{begins_with_lf, is_newline, stops_after}
use Rattle.miette_lines.specs.rules.Lines.{is_text}
use Rattle.miette_read_sarif.specs.rules.Newlines.{end_size}
use Rattle.miette_read_laws.specs.laws.RegionsBack.{log_newlines}

-- ---- characters of one byte

pub ascii_first : (b : ℕ) (bs : List ℕ) → b < 128 → characters (b ∷ bs) ≡ made b 1 ∷ characters bs
ascii_first b bs low =
    let is = ascii_decoded b bs low in
    characters_step (b ∷ bs) bs b 1 (record {
      some = omega arith;
      left_is = refl;
      code_is = sym (ap (λ d. or_replacement d.char) is);
      size_is = sym (ap (λ d. d.size) is);
    })

ascii_encoded : (c : ℕ) → c < 128 → encode_utf8 c ≡ c ∷ []
unfolding encode_utf8
ascii_encoded c low = rw (lt-ltb c 128 low) refl

first_same : (b c : ℕ) (bs more : List ℕ) → b ∷ bs ≡ (c ∷ []) ++ more → b ≡ c
first_same b c bs more e = cc

-- a character below 128 is its own byte
pub low_first : (b c : ℕ) (bs : List ℕ) → c < 128 → or_replacement (decoded (b ∷ bs)).char ≡ c → b ≡ c
low_first b c bs low is = by_char (decoded (b ∷ bs)).char refl
  where
    by_char : (o : Option ℕ) → (decoded (b ∷ bs)).char ≡ o → b ≡ c
    by_char None e = absurd (omega (arith, low, sym is ∙ ap or_replacement e))
    by_char (Some y) e =
        let same : y ≡ c = sym (ap or_replacement e) ∙ is in
        let spelt = SpellsChar-decoded (b ∷ bs) y e in
        first_same b c bs (drop (decoded (b ∷ bs)).size (b ∷ bs))
        (spelt.bytes ∙ ap (λ front. front ++ drop (decoded (b ∷ bs)).size (b ∷ bs))
        (ap encode_utf8 same ∙ ascii_encoded c low))

-- ---- a byte of a text

pub text_parts : (b : ℕ) → is_text b ≡ true → (eqb 10 b ≡ false) × (eqb 13 b ≡ false) × (b ≢ 10) × (b ≢ 13)
text_parts b h =
    (grind (arith, nat_tests), grind (arith, nat_tests), grind (arith, nat_tests), grind (arith, nat_tests))

pub end_parts : (b : ℕ) → is_text b ≡ false → (b ≡ 10) ⊎ (b ≡ 13)
end_parts b h = grind (arith, nat_tests)

-- no line ends there
pub no_end : (b : ℕ) (bs : List ℕ) → is_text b ≡ true → end_size log_newlines (b ∷ bs) ≡ 0
no_end b bs h = let p = text_parts b h in rw (p.0, p.1) refl

-- it's the first of no character that ends a line
pub text_first : (b : ℕ) (bs : List ℕ) (size : ℕ) → is_text b ≡ true
    → is_newline (made (or_replacement (decoded (b ∷ bs)).char) size) ≡ false
text_first b bs size h =
    let p = text_parts b h in
    let code = or_replacement (decoded (b ∷ bs)).char in
    let lf : eqb code 10 ≡ false = ne_eqb code 10 (λ e. p.2 (low_first b 10 bs (omega arith) e)) in
    let cr : eqb code 13 ≡ false = ne_eqb code 13 (λ e. p.3 (low_first b 13 bs (omega arith) e)) in
    rw (lf, cr) refl

-- ---- a line's end

abbrev pub stop_on : ℕ → ℕ → ℕ → Stop
stop_on offset line column = record { offset = offset; position = record { line = line; column = column } }

-- `size` bytes end a line: the stop after them is the next line's first
pub record Ends (bytes : List ℕ) (size : ℕ) : Type 0 where
  pub some : 0 < size
  pub within : size ≤ length bytes
  pub read : end_size log_newlines bytes ≡ size
  pub clean : StartsClean bytes
  pub stops : (e : PositionEncoding) (s : Stop) → stops_after e s (characters bytes)
      ≡ stop_on (s.offset + size) (s.position.line + 1) 0
      ∷ stops_after e (stop_on (s.offset + size) (s.position.line + 1) 0) (characters (drop size bytes))

lf_ends : (bs : List ℕ) → Ends (10 ∷ bs) 1
lf_ends bs = record {
  some = omega arith;
  within = omega arith;
  read = refl;
  clean = λ some. refl;
  stops = λ e s. ap (stops_after e s) (ascii_first 10 bs (omega arith));
}

cr_last : Ends (13 ∷ []) 1
cr_last = record {
  some = omega arith;
  within = omega arith;
  read = refl;
  clean = λ some. refl;
  stops = λ e s. ap (stops_after e s) (ascii_first 13 [] (omega arith)
      ∙ ap (λ cs. made 13 1 ∷ cs) (characters_end [] refl))
      ∙ sym (ap (λ cs. stop_on (s.offset + 1) (s.position.line + 1) 0
      ∷ stops_after e (stop_on (s.offset + 1) (s.position.line + 1) 0) cs) (characters_end [] refl));
}

crlf_ends : (bs : List ℕ) → Ends (13 ∷ (10 ∷ bs)) 2
crlf_ends bs = record {
  some = omega arith;
  within = omega arith;
  read = refl;
  clean = λ some. refl;
  stops = λ e s. (let two : s.offset + 1 + 1 ≡ s.offset + 2 = omega arith in
      ap (stops_after e s) (ascii_first 13 (10 ∷ bs) (omega arith)
      ∙ ap (λ cs. made 13 1 ∷ cs) (ascii_first 10 bs (omega arith)))
      ∙ ap (λ at. stop_on at (s.position.line + 1) 0
      ∷ stops_after e (stop_on at (s.position.line + 1) 0) (characters bs)) two);
}

no_lf : (c : ℕ) (bs : List ℕ) → c ≢ 10 → begins_with_lf (characters (c ∷ bs)) ≡ false
no_lf c bs differ =
    let code = or_replacement (decoded (c ∷ bs)).char in
    let size = (decoded (c ∷ bs)).size in
    ap begins_with_lf (characters_step (c ∷ bs) (drop size (c ∷ bs)) code size (record {
      some = omega arith;
      left_is = refl;
      code_is = refl;
      size_is = refl;
    })) ∙ ne_eqb code 10 (λ e. differ (low_first c 10 bs (omega arith) e))

cr_ends : (c : ℕ) (bs : List ℕ) → c ≢ 10 → Ends (13 ∷ (c ∷ bs)) 1
cr_ends c bs differ = record {
  some = omega arith;
  within = omega arith;
  read = rw (ne_eqb 10 c (λ e. differ (sym e))) refl;
  clean = λ some. refl;
  stops = λ e s. (
      let cs = characters (c ∷ bs) in
      let next = stop_on (s.offset + 1) (s.position.line + 1) 0 in
      let inside = stop_on (s.offset + 1) s.position.line s.position.column in
      ap (stops_after e s) (ascii_first 13 (c ∷ bs) (omega arith))
      ∙ ap (λ b. cond b (stops_after e inside cs) (next ∷ stops_after e next cs)) (no_lf c bs differ)
      );
}

cr_some : (bs : List ℕ) → (size : ℕ) × Ends (13 ∷ bs) size
cr_some [] = (1, cr_last)
cr_some (c ∷ bs) = by_next (eqb c 10) refl
  where
    by_next : (t : Bool) → eqb c 10 ≡ t → (size : ℕ) × Ends (13 ∷ (c ∷ bs)) size
    by_next true e =
        (2, subst (λ (k : ℕ). Ends (13 ∷ (k ∷ bs)) 2) (sym (eqb-true c 10 e)) (crlf_ends bs))
    by_next false e = (1, cr_ends c bs (grind (arith, nat_tests)))

-- a byte that is none of a text begins a line's end
pub ended : (b : ℕ) (bs : List ℕ) → is_text b ≡ false → (size : ℕ) × Ends (b ∷ bs) size
ended b bs h =
    ⊎_elim
    (λ lf. (1, subst (λ (k : ℕ). Ends (k ∷ bs) 1) (sym lf) (lf_ends bs)))
    (λ cr. (
    let it = cr_some bs in
    (it.0, subst (λ (k : ℕ). Ends (k ∷ bs) it.0) (sym cr) it.1)
    ))
    (end_parts b h)
