-- How a text is cut at its line feeds.
use Rattle.std.proofs.Common.{ℕ, ◌+◌, ◌<◌, ◌≡◌, ◌≢◌, true, false, cond, eqb, List, [], ◌∷◌, ◌++◌, length, length-append}
use Rattle.std.proofs.Common.{get_or, refl, sym, ap, subst, ◌∙◌, arith, eqb-true, lit<}
use Rattle.std.specs.Prelude.{chars, encode_utf8, encode_utf8_all, IsUtf8}
use Rattle.std.proofs.Math.Utf8.{scalars}
use Rattle.std.proofs.Math.Seq.{take-append_seam, drop-append-add}
use Rattle.std.proofs.lemmas.Bool.{and_parts}
use Rattle.std.proofs.lemmas.List.{get_or-append-add}
use Rattle.std.proofs.lemmas.Str.{encode_ascii, encodes-append, encodes-chars, chars-encodes, scalars-chars}
use Rattle.std.proofs.lemmas.Str.{IsUtf8-take, IsUtf8-drop, IsCharBoundary-before_ascii, IsCharBoundary-after_ascii}
use Rattle.miette_labels.specs.rules.Labels.{cut_at_lf}
use Rattle.miette_lines.proofs.Cases.{by_cases}
use Rattle.miette_lines.specs.rules.Lists.{onto}

-- no character is an LF
abbrev NoLf : List ℕ → Type 0
NoLf [] = Unit {0}
NoLf (c ∷ cs) = (eqb c 10 ≡ false) × NoLf cs

cut_none : (xs : List ℕ) → NoLf xs → cut_at_lf xs ≡ xs ∷ []
cut_none [] h = refl
cut_none (c ∷ xs) h = ap (λ b. cond b ([] ∷ cut_at_lf xs) (onto c (cut_at_lf xs))) h.0 ∙ ap (onto c) (cut_none xs h.1)

cut_at : (xs ys : List ℕ) → NoLf xs → cut_at_lf (xs ++ 10 ∷ ys) ≡ xs ∷ cut_at_lf ys
cut_at [] ys h = refl
cut_at (c ∷ xs) ys h = ap (λ b. cond b ([] ∷ cut_at_lf (xs ++ 10 ∷ ys)) (onto c (cut_at_lf (xs ++ 10 ∷ ys)))) h.0
    ∙ ap (onto c) (cut_at xs ys h.1)

-- no byte of a text is an LF, so no character is
no_lf_first : (c : ℕ) (cs : List ℕ) → ((i : ℕ) → i < length (encode_utf8 c ++ encode_utf8_all cs)
    → get_or (encode_utf8 c ++ encode_utf8_all cs) i 0 ≢ 10) → eqb c 10 ≡ true → ⊥
no_lf_first c cs h e =
    let lf : encode_utf8 c ++ encode_utf8_all cs ≡ 10 ∷ encode_utf8_all cs =
    ap (λ k. encode_utf8 k ++ encode_utf8_all cs) (eqb-true c 10 e)
    ∙ ap (λ xs. xs ++ encode_utf8_all cs) (encode_ascii 10 (lit< tt)) in
    h 0 (subst (λ bs. 0 < length bs) (sym lf) (omega arith)) (ap (λ bs. get_or bs 0 0) lf)

no_lf : (cs : List ℕ) → ((i : ℕ) → i < length (encode_utf8_all cs) → get_or (encode_utf8_all cs) i 0 ≢ 10) → NoLf cs
no_lf [] h = tt
no_lf (c ∷ cs) h = (
  by_cases {C = eqb c 10 ≡ false} (eqb c 10) (λ e. absurd (no_lf_first c cs h e)) (λ f. f),
  no_lf cs (λ i lt e. h (length (encode_utf8 c) + i) (omega (arith, length-append (encode_utf8 c) (encode_utf8_all cs)))
      (get_or-append-add (encode_utf8 c) (encode_utf8_all cs) i 0 ∙ e)),
)

scalars_append : (xs zs : List ℕ) → scalars xs ≡ true → scalars zs ≡ true → scalars (xs ++ zs) ≡ true
scalars_append [] zs a b = b
scalars_append (c ∷ xs) zs a b =
    let parts = and_parts _ (scalars xs) a in rw (parts.0) (scalars_append xs zs parts.1 b)

-- the characters of two texts with an LF between them
chars_parted : (a b : List ℕ) → IsUtf8 a → IsUtf8 b → chars (a ++ 10 ∷ b) ≡ chars a ++ 10 ∷ chars b
chars_parted a b ua ub =
    let whole : encode_utf8_all (chars a ++ 10 ∷ chars b) ≡ a ++ 10 ∷ b =
    encodes-append (chars a) (10 ∷ chars b) ∙ ap (λ xs. encode_utf8_all (chars a) ++ (xs ++ encode_utf8_all (chars b)))
    (encode_ascii 10 (lit< tt)) ∙ ap (λ xs. xs ++ 10 ∷ encode_utf8_all (chars b)) (encodes-chars a ua)
    ∙ ap (λ xs. a ++ 10 ∷ xs) (encodes-chars b ub) in
    ap chars (sym whole) ∙ chars-encodes (chars a ++ 10 ∷ chars b)
    (scalars_append (chars a) (10 ∷ chars b) (scalars-chars a ua) (scalars-chars b ub))

no_lf_chars : (a : List ℕ) → IsUtf8 a → ((i : ℕ) → i < length a → get_or a i 0 ≢ 10) → NoLf (chars a)
no_lf_chars a ua h =
    no_lf (chars a) (subst (λ (bs : List ℕ). (i : ℕ) → i < length bs → get_or bs i 0 ≢ 10) (sym (encodes-chars a ua)) h)

pub cut_whole : (a : List ℕ) → IsUtf8 a → ((i : ℕ) → i < length a → get_or a i 0 ≢ 10) → cut_at_lf (chars a) ≡ chars a
    ∷ []
cut_whole a ua h = cut_none (chars a) (no_lf_chars a ua h)

at_lf : (a b : List ℕ) → get_or (a ++ 10 ∷ b) (length a) 0 ≡ 10
at_lf a b = ap (λ k. get_or (a ++ 10 ∷ b) k 0) (omega arith) ∙ get_or-append-add a (10 ∷ b) 0 0

utf8_before : (a b : List ℕ) → IsUtf8 (a ++ 10 ∷ b) → IsUtf8 a
utf8_before a b u =
    let within : length a < length (a ++ 10 ∷ b) = omega (arith, length-append a (10 ∷ b)) in
    let at : get_or (a ++ 10 ∷ b) (length a) 0 ≡ 10 = at_lf a b in
    subst IsUtf8 (take-append_seam a (10 ∷ b)) (IsUtf8-take (a ++ 10 ∷ b) (length a) u
    (IsCharBoundary-before_ascii (a ++ 10 ∷ b) (length a) within (omega arith)))

utf8_after : (a b : List ℕ) → IsUtf8 (a ++ 10 ∷ b) → IsUtf8 b
utf8_after a b u =
    let within : length a < length (a ++ 10 ∷ b) = omega (arith, length-append a (10 ∷ b)) in
    let at : get_or (a ++ 10 ∷ b) (length a) 0 ≡ 10 = at_lf a b in
    subst IsUtf8 (drop-append-add a (10 ∷ b) 1) (IsUtf8-drop (a ++ 10 ∷ b) (length a + 1) u
    (IsCharBoundary-after_ascii (a ++ 10 ∷ b) (length a) u within (omega arith)))

pub cut_parted : (text a b : List ℕ) → IsUtf8 text → text ≡ a ++ 10 ∷ b → ((i : ℕ) → i < length a → get_or a i 0 ≢ 10)
    → cut_at_lf (chars text) ≡ chars a ∷ cut_at_lf (chars b)
cut_parted text a b u e h =
    let utf : IsUtf8 (a ++ 10 ∷ b) = subst IsUtf8 e u in
    let ua : IsUtf8 a = utf8_before a b utf in
    ap (λ bs. cut_at_lf (chars bs)) e ∙ ap cut_at_lf (chars_parted a b ua (utf8_after a b utf))
    ∙ cut_at (chars a) (chars b) (no_lf_chars a ua h)

-- a text has a first part
pub cut_some : (codes : List ℕ) → (first : List ℕ) × ((others : List (List ℕ)) × (cut_at_lf codes ≡ first ∷ others))
cut_some [] = ([], ([], refl))
cut_some (c ∷ cs) = by_cases {C = (first : List ℕ) × ((others : List (List ℕ)) × (cut_at_lf (c ∷ cs) ≡ first ∷ others))}
    (eqb c 10)
    (λ e. ([], (cut_at_lf cs, ap (λ b. cond b ([] ∷ cut_at_lf cs) (onto c (cut_at_lf cs))) e)))
    (λ f. let later = cut_some cs in (
      c ∷ later.0,
      (
        later.1.0,
        ap (λ b. cond b ([] ∷ cut_at_lf cs) (onto c (cut_at_lf cs))) f ∙ ap (onto c) later.1.1,
      ),
    ))
