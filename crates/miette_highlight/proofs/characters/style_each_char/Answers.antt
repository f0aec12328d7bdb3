use Rattle.std.proofs.Common.{arith, ◌≡◌, ℕ, ◌∙◌, List, [], sym, ap, subst}
use Rattle.std.proofs.lemmas.Grind.{common_steps}
use Rattle.std.proofs.lemmas.List.{append-nil}
use Rattle.std.proofs.lemmas.Str.{chars-nil, IsUtf8-past_char}
use Rattle.std.specs.Str.{chars}
use Rattle.miette_highlight.specs.rules.Pieces.{StyledPiece, CutsLine}
use Rattle.miette_style.specs.declared.style.Style.{Style}
use Rattle.miette_highlight.specs.rules.Characters.{AreCharacters}
use Rattle.miette_highlight.proofs.Joining.{goes_on, cuts_char, styles_char}
use Rattle.miette_highlight.proofs.characters.style_each_char.Goals as goal

pub loop-c-preserved : goal.loop-c-preserved
loop-c-preserved g c =
    let Goes : ℕ → Style → Type 0 = λ d style. goal.F-post g c.args.style_of d style in
    record {
      utf8 = IsUtf8-past_char _ _ _ c.loop-c.invariant.utf8 c.in-Some.ensures.steps.0;
      cuts = λ more cut. goes_on (λ pieces. CutsLine c.args.line.now pieces) _ _ _ more c.in_ok-push.ensures.items
          (c.loop-c.invariant.cuts _ (cuts_char _ _ c.in-Some.c _ c.style_of.result more c.loop-c.invariant.utf8
          c.in-Some.ensures.steps.0 c.len_utf8.ensures.len cut));
      styles = λ more h. goes_on (λ pieces. AreCharacters Goes (chars c.args.line.now) pieces) _ _ _ more
          c.in_ok-push.ensures.items
          (c.loop-c.invariant.styles _ (styles_char Goes _ _ c.in-Some.c _ c.style_of.result more
          c.loop-c.invariant.utf8 c.in-Some.ensures.steps.0 c.len_utf8.ensures.len c.style_of.ensures h));
    }

pub returns-clause-cuts : goal.returns-clause-cuts
returns-clause-cuts g c =
    let P : List StyledPiece → Type 0 = λ pieces. CutsLine c.args.line.now pieces in
    let none : CutsLine c.loop-c.c-iterator.rest.now [] = grind (arith, common_steps, c.in-None.ensures.steps.0) in
    subst P (append-nil c.loop-c.pieces.items) (c.loop-c.invariant.cuts [] none)

pub returns-clause-styles : goal.returns-clause-styles
returns-clause-styles g c =
    let Goes : ℕ → Style → Type 0 = λ d style. goal.F-post g c.args.style_of d style in
    let empty : c.loop-c.c-iterator.rest.now ≡ [] = grind (arith, common_steps, c.in-None.ensures.steps.0) in
    let none : chars c.loop-c.c-iterator.rest.now ≡ [] = ap chars empty ∙ chars-nil in
    subst (λ pieces. AreCharacters Goes (chars c.args.line.now) pieces) (append-nil c.loop-c.pieces.items)
    (c.loop-c.invariant.styles [] (subst (λ cs. AreCharacters Goes cs []) (sym none) tt))
