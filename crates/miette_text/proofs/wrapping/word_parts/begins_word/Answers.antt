use Rattle.std.proofs.Common.{◌≡◌, ℕ, ◌<◌, ◌∙◌, false, List, [], ◌∷◌, ap, arith, get_or, length, refl}
use Rattle.miette_text.specs.rules.Wrapping.{is_alphanumeric}
use Rattle.miette_text.specs.steps.Ends.{begins_word}
use Rattle.miette_text.proofs.wrapping.word_parts.begins_word.Goals as goal

none-begins : (cs : List ℕ) → length cs ≡ 0 → false ≡ begins_word cs
none-begins [] e = refl
none-begins (c ∷ cs) e = absurd (omega arith)

first-begins : (cs : List ℕ) → 0 < length cs → is_alphanumeric (get_or cs 0 0) ≡ begins_word cs
first-begins [] l = absurd (omega arith)
first-begins (c ∷ cs) l = refl

pub returns-then-n-eq0 : goal.returns-then-n-eq0
returns-then-n-eq0 g c = none-begins (g.C.Codes.codes c.args.codes) (omega (arith, c.count-n.ensures, c.if-n-eq0.true))

pub returns : goal.returns
returns g c =
    c.is_alphanumeric.ensures ∙ ap is_alphanumeric c.at.ensures
    ∙ first-begins (g.C.Codes.codes c.args.codes) (omega (arith, c.count-n.ensures, c.if-n-eq0.false))
