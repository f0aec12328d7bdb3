-- Texts of ASCII without an escape: they are read as their bytes.
use Rattle.std.proofs.Common.{◌≡◌, ℕ, zero, suc, ◌<◌, Bool, true, false, not, ◌&&◌, Option, Some, None, List, [], ◌∷◌}
use Rattle.std.proofs.Common.{IsAscii, MatchOption, chars, is_some, length, map, refl, sym, ap, ap₂, ◌∙◌, arith, subst}
use Rattle.std.proofs.Common.{slice_index}
use Rattle.std.specs.Str.{IsNotAscii}
use Rattle.std.proofs.Math.Bool.{and-false}
use Rattle.std.proofs.lemmas.Bool.{false_from_ne_true}
use Rattle.std.proofs.lemmas.Str.{chars-IsAscii}
use Rattle.memchr.specs.Find.{IsFirstByte, Nowhere, Passes, is_byte}
use Rattle.miette_style.specs.rules.Escapes.{is_escape, no_escape}
use Rattle.miette_runs.specs.declared.runs.codes.Ascii.{Ascii}
use Rattle.miette_runs.specs.rules.Sequences.{Character, tokens}
use Rattle.miette_runs.specs.views.Interleaving.{interleaving}
use Rattle.miette_runs.proofs.SettledRuns.{tokens-plain}

-- ---- a search for an escape that finds none

nowhere-escape : (bs : List ℕ) → Nowhere (Passes (is_byte 27) bs) 0 (length bs) → no_escape bs ≡ true
nowhere-escape [] h = refl
nowhere-escape (b ∷ bs) h =
    ap₂ (λ x y. not x && y) (false_from_ne_true (is_escape b) (h 0 (omega arith) (omega arith)))
    (nowhere-escape bs (λ k lo lt. h (suc k) (omega arith) (omega (arith, lt))))

found-escape : (bs : List ℕ) (k : ℕ) → k < length bs → is_byte 27 (slice_index bs k) ≡ true → no_escape bs ≡ false
found-escape [] k l h = absurd (omega arith)
found-escape (b ∷ bs) zero l h = ap (λ x. not x && no_escape bs) h
found-escape (b ∷ bs) (suc k) l h = ap (λ y. not (is_escape b) && y) (found-escape bs k (omega (arith, l)) h)
    ∙ and-false (not (is_escape b))

pub searched-escape : (bs : List ℕ) (r : Option ℕ) (none : Bool) → IsFirstByte (is_byte 27) bs r → is_some r ≡ not none
    → none ≡ no_escape bs
searched-escape bs None true h e = sym (nowhere-escape bs h)
searched-escape bs (Some k) false h e = sym (found-escape bs k h.0.high h.1)
searched-escape bs None false h e = absurd (cc)
searched-escape bs (Some k) true h e = absurd (cc)

-- ---- what such a text is read as

woven-plain : (at : ℕ) (cs : List ℕ) → interleaving at cs [] ≡ map Character cs
woven-plain at [] = refl
woven-plain at (c ∷ cs) = ap (λ ts. Character c ∷ ts) (woven-plain (suc at) cs)

plain-text : (text it : List ℕ) → IsAscii text → no_escape text ≡ true → it ≡ text
    → interleaving 0 it [] ≡ tokens (chars text)
plain-text text it a n e =
    woven-plain 0 it ∙ ap (map Character) e ∙ sym (tokens-plain text n) ∙ ap tokens (sym (chars-IsAscii text a))

pub plain-found : (text : List ℕ) (r : Option Ascii) → no_escape text ≡ true →
    MatchOption r (IsNotAscii text) (λ it. it.text.now ≡ text) →
    MatchOption r (no_escape text ≡ true → IsNotAscii text) (λ it. interleaving 0 it.text.now [] ≡ tokens (chars text))
plain-found text None n h = λ _. h
plain-found text (Some it) n h = plain-text text it.text.now (subst IsAscii h it.ascii) n h
