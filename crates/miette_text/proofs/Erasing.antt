-- The laws: what is wrapped from tame parts is tame, and deleting colours commutes with it.
use Rattle.std.proofs.Common.{◌≡◌, ℕ, List, [], ◌∷◌, ◌++◌, sym, ap, ap₂, ◌∙◌, arith}
use Rattle.std.proofs.lemmas.Bool.Decides.{nat_tests}
use Rattle.miette_runs.specs.rules.Sequences.{Token, Character, Sequence, tokens, spell, erase}
use Rattle.miette_text.specs.laws.Tame.{TameState, Free, Escaped, Opened, Waiting, Untamed, tame_step, tame_after}
use Rattle.miette_text.specs.laws.Tame.{AreTame}
use Rattle.miette_text.specs.laws.Tame.{IsTame, AllTame}
use Rattle.miette_text.specs.rules.ColouredTexts.{plain_plan}
use Rattle.miette_text.specs.rules.Wrapping.{WrapPlan, map_indents, wrapped_tokens, wrapped_text}
use Rattle.miette_text.proofs.ErasedTokens.{erased}
use Rattle.miette_text.proofs.Parsing.{broken_stays, tokens-spell, erase-spell}
use Rattle.miette_text.proofs.Commuting.{wrapped-erased, erased-append}
use Rattle.miette_text.proofs.TameResults.{wrapped_tokens-tame, run-append}
use Rattle.miette_runs.proofs.Appending.{spell-append}
use Rattle.miette_text.proofs.Simple.{wrapped-read}
use Rattle.miette_runs.proofs.Tokens.{spell-tokens}

-- ---- the tokens of a text spell it

-- ---- deleting colours from a tame text

erased-run : (s : TameState) (ts : List Token) → tame_after s ts ≡ Free → tame_after s (erased ts) ≡ Free
erased-run s [] h = h
erased-run s (Character c ∷ ts) h = erased-run (tame_step s (Character c)) ts h
erased-run Free (Sequence q ∷ ts) h = grind (arith, nat_tests, broken_stays ts, erased-run Free ts)
erased-run Escaped (Sequence q ∷ ts) h = cc (broken_stays ts)
erased-run Opened (Sequence q ∷ ts) h = cc (broken_stays ts)
erased-run Waiting (Sequence q ∷ ts) h = grind (arith, nat_tests, broken_stays ts, erased-run Waiting ts)
erased-run Untamed (Sequence q ∷ ts) h = cc (broken_stays ts)

pub erase-tame : (text : List ℕ) → IsTame text → erase text ≡ spell (erased (tokens text))
erase-tame text h = ap erase (sym (spell-tokens text)) ∙ erase-spell Free (tokens text) h

pub tokens-erase : (text : List ℕ) → IsTame text → tokens (erase text) ≡ erased (tokens text)
tokens-erase text h = ap tokens (erase-tame text h) ∙ tokens-spell Free (erased (tokens text))
    (erased-run Free (tokens text) h)

-- ---- joining

tame-append : (us vs : List Token) → AreTame us → AreTame vs → AreTame (us ++ vs)
tame-append us vs h k = run-append Free us vs ∙ ap (λ s. tame_after s vs) h ∙ k

pub tokens-append : (x y : List ℕ) → IsTame x → IsTame y → tokens (x ++ y) ≡ tokens x ++ tokens y
tokens-append x y h k =
    ap₂ (λ us vs. tokens (us ++ vs)) (sym (spell-tokens x)) (sym (spell-tokens y))
    ∙ ap tokens (sym (spell-append (tokens x) (tokens y)))
    ∙ tokens-spell Free (tokens x ++ tokens y) (tame-append (tokens x) (tokens y) h k)

-- Tame texts end to end are tame.
pub append-tame : (x y : List ℕ) → IsTame x → IsTame y → IsTame (x ++ y)
append-tame x y h k = ap (tame_after Free) (tokens-append x y h k) ∙ tame-append (tokens x) (tokens y) h k

pub erase-append : (x y : List ℕ) → IsTame x → IsTame y → erase (x ++ y) ≡ erase x ++ erase y
erase-append x y h k =
    erase-tame (x ++ y) (append-tame x y h k)
    ∙ ap (λ ts. spell (erased ts)) (tokens-append x y h k)
    ∙ ap spell (erased-append (tokens x) (tokens y))
    ∙ spell-append (erased (tokens x)) (erased (tokens y))
    ∙ ap₂ (λ us vs. us ++ vs) (sym (erase-tame x h)) (sym (erase-tame y k))

-- ---- wrapping

read-tame : (p : WrapPlan (List ℕ)) (text : List ℕ) → AllTame p text
    → AreTame (wrapped_tokens (map_indents tokens p) (tokens text))
read-tame p text h = wrapped_tokens-tame (map_indents tokens p) (tokens text) h.first h.further h.inner

-- What is wrapped from tame parts is tame.
pub wrapped-tame : (p : WrapPlan (List ℕ)) (text : List ℕ) → AllTame p text → IsTame (wrapped_text p text)
wrapped-tame p text h = ap (tame_after Free) (tokens-spell Free (wrapped_tokens (map_indents tokens p) (tokens text))
    (read-tame p text h)) ∙ read-tame p text h

-- Deleting colours commutes with wrapping.
pub erase-wrapped : (p : WrapPlan (List ℕ)) (text : List ℕ) → AllTame p text → erase (wrapped_text p text)
    ≡ wrapped_text (plain_plan p) (erase text)
erase-wrapped p text h =
    erase-spell Free (wrapped_tokens (map_indents tokens p) (tokens text)) (read-tame p text h)
    ∙ ap spell (sym (wrapped-erased (map_indents tokens p) (tokens text)))
    ∙ wrapped-read (plain_plan p) (erased (tokens p.first)) (erased (tokens p.further)) (erased (tokens text))
    (erase text) (sym (tokens-erase p.first h.first)) (sym (tokens-erase p.further h.further))
    (sym (tokens-erase text h.inner))
