-- Runs with one character or one tag more.
use Rattle.std.proofs.Common.{◌≡◌, ℕ, suc, ◌+◌, ◌<◌, ◌≤◌, true, false, nat_le, if◌then◌else◌, List, [], ◌∷◌, ◌++◌, map}
use Rattle.std.proofs.Common.{length, refl, sym, ap, ap₂, ◌∙◌, arith, append_assoc, append-nil}
use Rattle.std.proofs.lemmas.Bool.Decides.{nat_tests}
use Rattle.std.proofs.lemmas.List.{map-append}
use Rattle.std.proofs.lemmas.List.Elements.{All-head, All-tail, All-weaker}
use Rattle.miette_runs.specs.rules.Sequences.{Token, Character, Sequence, spell}
use Rattle.miette_runs.specs.views.Interleaving.{tag_token, upto, beyond, interleaving, AreWithin}
use Rattle.miette_runs.specs.declared.runs.sign.Tag.{Tag}
use Rattle.miette_runs.proofs.Appending.{spell-append}
use Rattle.miette_runs.proofs.Weaving.{woven-none}

pub within-more : (n k : ℕ) (ms : List Tag) → n ≤ k → AreWithin n ms → AreWithin k ms
within-more n k ms h w = All-weaker (λ (m : Tag). m.at ≤ n) (λ (m : Tag). m.at ≤ k) (λ m g. omega arith) ms w

upto-all : (p : ℕ) (ms : List Tag) → AreWithin p ms → upto p ms ≡ ms
upto-all p [] w = refl
upto-all p (m ∷ ms) w =
    let h : m.at ≤ p = All-head (λ (m : Tag). m.at ≤ p) m ms w in
    let rest : upto p ms ≡ ms = upto-all p ms (All-tail (λ (m : Tag). m.at ≤ p) m ms w) in
    grind (arith, nat_tests, rest)

beyond-all : (p : ℕ) (ms : List Tag) → AreWithin p ms → beyond p ms ≡ []
beyond-all p [] w = refl
beyond-all p (m ∷ ms) w =
    let h : m.at ≤ p = All-head (λ (m : Tag). m.at ≤ p) m ms w in
    let rest : beyond p ms ≡ [] = beyond-all p ms (All-tail (λ (m : Tag). m.at ≤ p) m ms w) in
    grind (arith, nat_tests, rest)

beyond-within : (n p : ℕ) (ms : List Tag) → AreWithin n ms → AreWithin n (beyond p ms)
beyond-within n p [] w = w
beyond-within n p (m ∷ ms) w =
    elim (nat_le m.at p) as (λ b. AreWithin n (if b then beyond p ms else m ∷ ms)) [
      | true ↦ beyond-within n p ms (All-tail (λ (m : Tag). m.at ≤ n) m ms w)
      | false ↦ w
    ]

-- characters more
pub woven-more : (p : ℕ) (cs ds : List ℕ) (ms : List Tag) → AreWithin (p + length cs) ms → interleaving p (cs ++ ds) ms
    ≡ interleaving p cs ms ++ map Character ds
woven-more p [] [] ms w = sym (append-nil (map tag_token ms))
woven-more p [] (d ∷ ds) ms w =
    let v : AreWithin p ms = within-more (p + 0) p ms (omega arith) w in
    ap₂ (λ us vs. map tag_token us ++ Character d ∷ interleaving (suc p) ds vs) (upto-all p ms v) (beyond-all p ms v)
    ∙ ap (λ ts. map tag_token ms ++ Character d ∷ ts) (woven-none (suc p) ds)
woven-more p (c ∷ cs) ds ms w =
    let v : AreWithin (suc p + length cs) (beyond p ms) =
    within-more (p + length (c ∷ cs)) (suc p + length cs) (beyond p ms) (omega arith)
    (beyond-within (p + length (c ∷ cs)) p ms w) in
    ap (λ ts. map tag_token (upto p ms) ++ Character c ∷ ts) (woven-more (suc p) cs ds (beyond p ms) v)
    ∙ sym (append_assoc (map tag_token (upto p ms)) (Character c ∷ interleaving (suc p) cs (beyond p ms))
    (map Character ds))

upto-tag : (p : ℕ) (ms : List Tag) (m : Tag) → p < m.at → upto p (ms ++ m ∷ []) ≡ upto p ms
upto-tag p [] m h = grind (arith, nat_tests)
upto-tag p (n ∷ ms) m h = grind (arith, nat_tests, upto-tag p ms m h)

beyond-tag : (p : ℕ) (ms : List Tag) (m : Tag) → p < m.at → beyond p (ms ++ m ∷ []) ≡ beyond p ms ++ m ∷ []
beyond-tag p [] m h = grind (arith, nat_tests)
beyond-tag p (n ∷ ms) m h = grind (arith, nat_tests, beyond-tag p ms m h)

-- a tag more
pub woven-tag : (p : ℕ) (cs : List ℕ) (ms : List Tag) (m : Tag) → p + length cs ≤ m.at
    → interleaving p cs (ms ++ m ∷ []) ≡ interleaving p cs ms ++ tag_token m ∷ []
woven-tag p [] ms m h = map-append tag_token ms (m ∷ [])
woven-tag p (c ∷ cs) ms m h =
    let far : p < m.at = omega arith in
    ap₂ (λ us vs. map tag_token us ++ Character c ∷ interleaving (suc p) cs vs) (upto-tag p ms m far)
    (beyond-tag p ms m far)
    ∙ ap (λ ts. map tag_token (upto p ms) ++ Character c ∷ ts) (woven-tag (suc p) cs (beyond p ms) m (omega arith))
    ∙ sym (append_assoc (map tag_token (upto p ms)) (Character c ∷ interleaving (suc p) cs (beyond p ms))
    (tag_token m ∷ []))

pub spell-characters : (cs : List ℕ) → spell (map Character cs) ≡ cs
spell-characters [] = refl
spell-characters (c ∷ cs) = ap (λ xs. c ∷ xs) (spell-characters cs)

-- what is printed where characters, or a sequence, are added
pub spell-more : (old new : List Token) (cs : List ℕ) → new ≡ old ++ map Character cs → spell new ≡ spell old ++ cs
spell-more old new cs e = ap spell e ∙ spell-append old (map Character cs)
    ∙ ap (λ xs. spell old ++ xs) (spell-characters cs)

pub spell-sequence : (old new : List Token) (s : List ℕ) → new ≡ old ++ Sequence s ∷ [] → spell new ≡ spell old ++ s
spell-sequence old new s e = ap spell e ∙ spell-append old (Sequence s ∷ []) ∙ ap (λ xs. spell old ++ xs) (append-nil s)

pub spell-appended : (old new more : List Token) → new ≡ old ++ more → spell new ≡ spell old ++ spell more
spell-appended old new more e = ap spell e ∙ spell-append old more

pub appended-next : (o o1 o2 xs ts : List Token) (t : Token) → o1 ≡ o ++ xs → o2 ≡ o1 ++ t ∷ [] → o2 ++ ts ≡ o
    ++ (xs ++ t ∷ ts)
appended-next o o1 o2 xs ts t e f =
    ap (λ us. us ++ ts) (f ∙ ap (λ us. us ++ t ∷ []) e)
    ∙ append_assoc (o ++ xs) (t ∷ []) ts
    ∙ append_assoc o xs (t ∷ ts)
