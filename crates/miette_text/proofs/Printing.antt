-- What runs and links print is tame, and without colours it is the same runs in plain styles.
use Rattle.std.proofs.Common.{◌≡◌, ℕ, Bool, true, false, not, ◌||◌, List, [], ◌∷◌, ◌++◌, map, refl, sym, ap, ap₂, ◌∙◌}
use Rattle.std.proofs.Common.{arith, eqb-true, append_assoc, append-nil, if◌then◌else◌, ◌⊎◌, inl, inr}
use Rattle.std.proofs.lemmas.Bool.{and_parts}
use Rattle.std.proofs.lemmas.Bool.Decides.{nat_tests}
use Rattle.miette_runs.specs.rules.Sequences.{Token, Character, Sequence, tokens, spell, erase, is_line_feed, is_bell}
use Rattle.miette_style.specs.rules.Escapes.{is_escape}
use Rattle.miette_text.specs.laws.Tame.{Free, Opened, Waiting, Untamed, tame_step, tame_after, AreTame, IsTame}
use Rattle.miette_runs.specs.rules.Colours.{is_colour, is_link, is_link_end}
use Rattle.miette_style.specs.rules.Escapes.{no_escape}
use Rattle.miette_style.specs.rules.Styles.{plain}
use Rattle.miette_style.specs.declared.style.Style.{Style}
use Rattle.miette_runs.specs.rules.Runs.{Fragment, Styled, LinkTo, LinkEnd, printed_run, link_start, printed_text}
use Rattle.miette_runs.specs.rules.Runs.{print, HaveNoEscape, made_plain, HasNoEscape}
use Rattle.miette_style.specs.rules.Codes.{style_codes, colour_start, colour_stop}
use Rattle.miette_text.proofs.ErasedTokens.{erased}
use Rattle.miette_text.proofs.Parsing.{tokens-spell, erase-spell}
use Rattle.miette_text.proofs.TameResults.{run-append}
use Rattle.miette_text.proofs.Erasing.{append-tame, erase-append}
use Rattle.miette_runs.proofs.Parameters.{start_colour}
use Rattle.miette_runs.proofs.Growing.{spell-characters}

-- a text that is spelled by tame tokens
spelled-tame : (text : List ℕ) (ts : List Token) → AreTame ts → spell ts ≡ text → IsTame text
spelled-tame text ts h e = ap (λ x. tame_after Free (tokens x)) (sym e)
    ∙ ap (tame_after Free) (tokens-spell Free ts h) ∙ h

spelled-erase : (text : List ℕ) (ts : List Token) → AreTame ts → spell ts ≡ text → erase text ≡ spell (erased ts)
spelled-erase text ts h e = ap erase (sym e) ∙ erase-spell Free ts h

-- ---- a plain text

erased-characters : (cs : List ℕ) → erased (map Character cs) ≡ map Character cs
erased-characters [] = refl
erased-characters (c ∷ cs) = ap (λ xs. Character c ∷ xs) (erased-characters cs)

plain-run : (cs : List ℕ) → no_escape cs ≡ true → tame_after Free (map Character cs) ≡ Free
plain-run [] h = refl
plain-run (c ∷ cs) h = grind (arith, nat_tests, plain-run cs)

pub plain-tame : (cs : List ℕ) → no_escape cs ≡ true → IsTame cs
plain-tame cs h = spelled-tame cs (map Character cs) (plain-run cs h) (spell-characters cs)

pub plain-erase : (cs : List ℕ) → no_escape cs ≡ true → erase cs ≡ cs
plain-erase cs h = spelled-erase cs (map Character cs) (plain-run cs h) (spell-characters cs)
    ∙ ap spell (erased-characters cs) ∙ spell-characters cs

-- ---- links

-- `ESC \`
abbrev terminator : List ℕ
terminator = 27 ∷ 92 ∷ []

-- The body of a link, with what is to finish it: a BEL finishes it before, or a line feed leaves it open, or all of it
-- is the sequence.
abbrev Finish : List ℕ → Type 0
Finish b = ((p : List ℕ × List ℕ) × (b ≡ p.0 ++ 7 ∷ p.1) × (is_link_end (p.0 ++ 7 ∷ []) ≡ true)
    × (no_escape p.1 ≡ true))
    ⊎ ((tame_after Opened (map Character b ++ map Character terminator) ≡ Free)
    ⊎ (is_link_end (b ++ terminator) ≡ true))

plain-closed : (b : List ℕ) → no_escape b ≡ true → tame_after Free (map Character b ++ map Character terminator)
    ≡ Free
plain-closed b h = run-append Free (map Character b) (map Character terminator)
    ∙ ap (λ s. tame_after s (map Character terminator)) (plain-run b h)

-- after a line feed, what is to be seen comes
waiting-run : (b : List ℕ) → no_escape b ≡ true → tame_after Waiting (map Character b ++ map Character terminator)
    ≡ Free
waiting-run [] h = refl
waiting-run (c ∷ b) h = grind (arith, nat_tests, waiting-run b, plain-closed b)

link_end-more : (c : ℕ) (cs : List ℕ) → is_bell c ≡ false → is_escape c ≡ false → is_line_feed c ≡ false
    → is_link_end cs ≡ true → is_link_end (c ∷ cs) ≡ true
link_end-more c cs a b d h = grind (arith, nat_tests)

opened-more : (c : ℕ) (ts : List Token) → is_bell c ≡ false → is_escape c ≡ false → is_line_feed c ≡ false
    → tame_after Opened ts ≡ Free → tame_after Opened (Character c ∷ ts) ≡ Free
opened-more c ts a b d h = grind (arith, nat_tests)

finish : (b : List ℕ) → no_escape b ≡ true → Finish b
finish [] h = inr (inr refl)
finish (c ∷ b) h =
    let p = and_parts (not (is_escape c)) (no_escape b) h in
    let e : is_escape c ≡ false = grind (arith, nat_tests) in
    elim (is_bell c) as (λ v. is_bell c ≡ v → Finish (c ∷ b)) [
      | true ↦ λ v. inl (([], b), ap (λ x. x ∷ b) (eqb-true c 7 v), refl, p.1)
      | false ↦ λ v. elim (is_line_feed c) as (λ w. is_line_feed c ≡ w → Finish (c ∷ b)) [
        | true ↦ λ w. inr (inl (ap (λ x. tame_after (tame_step Opened (Character x))
            (map Character b ++ map Character terminator)) (eqb-true c 10 w) ∙ waiting-run b p.1))
        | false ↦ λ w. elim (finish b p.1) [
          | inl f ↦ inl ((c ∷ f.0.0, f.0.1), ap (λ xs. c ∷ xs) f.1, link_end-more c (f.0.0 ++ 7 ∷ []) v e w f.2, f.3)
          | inr g ↦ elim g [
            | inl f ↦ inr (inl (opened-more c (map Character b ++ map Character terminator) v e w f))
            | inr f ↦ inr (inr (link_end-more c (b ++ terminator) v e w f))
          ]
        ]
      ] refl
    ] refl

-- what is spelled by tame tokens with no colour
record Uncoloured (text : List ℕ) : Type 0 where
  pub ts : List Token
  pub spells : spell ts ≡ text
  pub tame : AreTame ts
  pub same : erased ts ≡ ts

spell-both : (x y : List ℕ) → spell (map Character x ++ map Character y) ≡ x ++ y
spell-both [] y = spell-characters y
spell-both (c ∷ x) y = ap (λ xs. c ∷ xs) (spell-both x y)

erased-both : (x y : List ℕ) → erased (map Character x ++ map Character y) ≡ map Character x ++ map Character y
erased-both [] y = erased-characters y
erased-both (c ∷ x) y = ap (λ xs. Character c ∷ xs) (erased-both x y)

link-run : (s : List ℕ) (ts : List Token) → is_link_end s ≡ true → tame_after Free ts ≡ Free
    → tame_after Free (Sequence (27 ∷ 93 ∷ s) ∷ ts) ≡ Free
link-run s ts h k = ap (λ (b : Bool). tame_after (if b then Free else Untamed) ts) h ∙ k

uncoloured_link : (b : List ℕ) → no_escape b ≡ true → Uncoloured (27 ∷ 93 ∷ b ++ terminator)
uncoloured_link b h = elim (finish b h) [
  | inl f ↦ record {
    ts = Sequence (27 ∷ 93 ∷ f.0.0 ++ 7 ∷ []) ∷ map Character f.0.1 ++ map Character terminator;
    spells = ap (λ xs. 27 ∷ 93 ∷ xs) (ap (λ xs. (f.0.0 ++ 7 ∷ []) ++ xs) (spell-both f.0.1 terminator)
        ∙ append_assoc f.0.0 (7 ∷ []) (f.0.1 ++ terminator) ∙ sym (append_assoc f.0.0 (7 ∷ f.0.1) terminator)
        ∙ ap (λ xs. xs ++ terminator) (sym f.1));
    tame = link-run (f.0.0 ++ 7 ∷ []) (map Character f.0.1 ++ map Character terminator) f.2 (plain-closed f.0.1 f.3);
    same = ap (λ xs. Sequence (27 ∷ 93 ∷ f.0.0 ++ 7 ∷ []) ∷ xs) (erased-both f.0.1 terminator);
  }
  | inr g ↦ elim g [
    | inl f ↦ record {
      ts = Character 27 ∷ Character 93 ∷ map Character b ++ map Character terminator;
      spells = ap (λ xs. 27 ∷ 93 ∷ xs) (spell-both b terminator);
      tame = f;
      same = ap (λ xs. Character 27 ∷ Character 93 ∷ xs) (erased-both b terminator);
    }
    | inr f ↦ record {
      ts = Sequence (27 ∷ 93 ∷ b ++ terminator) ∷ [];
      spells = append-nil (27 ∷ 93 ∷ b ++ terminator);
      tame = link-run (b ++ terminator) [] f refl;
      same = refl;
    }
  ]
]

pub link-tame : (url : List ℕ) → no_escape url ≡ true → IsTame (link_start url)
link-tame url h = let u = uncoloured_link (56 ∷ 59 ∷ 59 ∷ url) h in spelled-tame (link_start url) u.ts u.tame u.spells

pub link-erase : (url : List ℕ) → no_escape url ≡ true → erase (link_start url) ≡ link_start url
link-erase url h = let u = uncoloured_link (56 ∷ 59 ∷ 59 ∷ url) h in spelled-erase (link_start url) u.ts u.tame u.spells
    ∙ ap spell u.same ∙ u.spells

-- ---- colours

colour-run : (q : List ℕ) (ts : List Token) → is_colour q ≡ true → tame_after Free (Sequence q ∷ ts)
    ≡ tame_after Free ts
colour-run q ts h = ap (λ (b : Bool). tame_after (if b || is_link q then Free else Untamed) ts) h

colour-erased : (q : List ℕ) (ts : List Token) → is_colour q ≡ true → erased (Sequence q ∷ ts) ≡ erased ts
colour-erased q ts h = ap (λ (b : Bool). if b then erased ts else Sequence q ∷ erased ts) h

colour-tame : (q : List ℕ) → is_colour q ≡ true → IsTame q
colour-tame q h = spelled-tame q (Sequence q ∷ []) (colour-run q [] h) (append-nil q)

colour-erase : (q : List ℕ) → is_colour q ≡ true → erase q ≡ []
colour-erase q h = spelled-erase q (Sequence q ∷ []) (colour-run q [] h) (append-nil q)
    ∙ ap spell (colour-erased q [] h)

-- ---- runs

coloured-tame : (s : Style) (text : List ℕ) → no_escape text ≡ true → IsTame (colour_start s ++ text ++ colour_stop)
coloured-tame s text k = append-tame (colour_start s ++ text) colour_stop
    (append-tame (colour_start s) text (colour-tame (colour_start s) (start_colour s)) (plain-tame text k))
    (colour-tame colour_stop refl)

coloured-erase : (s : Style) (text : List ℕ) → no_escape text ≡ true → erase (colour_start s ++ text ++ colour_stop)
    ≡ text
coloured-erase s text k =
    erase-append (colour_start s ++ text) colour_stop (append-tame (colour_start s) text
    (colour-tame (colour_start s) (start_colour s)) (plain-tame text k)) (colour-tame colour_stop refl)
    ∙ ap₂ (λ x y. x ++ y) (erase-append (colour_start s) text (colour-tame (colour_start s) (start_colour s))
    (plain-tame text k) ∙ ap₂ (λ x y. x ++ y) (colour-erase (colour_start s) (start_colour s)) (plain-erase text k))
    (colour-erase colour_stop refl)
    ∙ append-nil text

styled-tame : (s : Style) (text : List ℕ) → no_escape text ≡ true → IsTame (printed_run s text)
styled-tame s [] k = refl
styled-tame s (c ∷ cs) k = elim (style_codes s) as (λ xs. IsTame
    (elim xs as (λ _. List ℕ) [ [] ↦ c ∷ cs | y ∷ ys ↦ colour_start s ++ (c ∷ cs) ++ colour_stop ])) [
      | [] ↦ plain-tame (c ∷ cs) k
      | y ∷ ys ↦ coloured-tame s (c ∷ cs) k
    ]

styled-erase : (s : Style) (text : List ℕ) → no_escape text ≡ true → erase (printed_run s text) ≡ printed_run plain text
styled-erase s [] k = refl
styled-erase s (c ∷ cs) k = elim (style_codes s) as (λ xs. erase
    (elim xs as (λ _. List ℕ) [ [] ↦ c ∷ cs | y ∷ ys ↦ colour_start s ++ (c ∷ cs) ++ colour_stop ]) ≡ c ∷ cs) [
      | [] ↦ plain-erase (c ∷ cs) k
      | y ∷ ys ↦ coloured-erase s (c ∷ cs) k
    ]

pub run-tame : (s : Fragment) → HasNoEscape s → IsTame (printed_text s)
run-tame (Styled s text) h = styled-tame s text h
run-tame (LinkTo url) h = link-tame url h
run-tame LinkEnd h = link-tame [] refl

pub run-erase : (s : Fragment) → HasNoEscape s → erase (printed_text s) ≡ printed_text (made_plain s)
run-erase (Styled s text) h = styled-erase s text h
run-erase (LinkTo url) h = link-erase url h
run-erase LinkEnd h = link-erase [] refl

-- What runs print is tame.
pub print-tame : (ss : List Fragment) → HaveNoEscape ss → IsTame (print ss)
print-tame [] h = refl
print-tame (s ∷ ss) h = append-tame (printed_text s) (print ss) (run-tame s h.0) (print-tame ss h.1)

-- Without colours it is what they print in plain styles.
pub print-erase : (ss : List Fragment) → HaveNoEscape ss → erase (print ss) ≡ print (map made_plain ss)
print-erase [] h = refl
print-erase (s ∷ ss) h =
    erase-append (printed_text s) (print ss) (run-tame s h.0) (print-tame ss h.1)
    ∙ ap₂ (λ x y. x ++ y) (run-erase s h.0) (print-erase ss h.1)
