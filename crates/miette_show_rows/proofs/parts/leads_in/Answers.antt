use Rattle.std.proofs.Common.{◌≡◌, ℕ, List, ◌∷◌, ◌∙◌, ap, sym, true, false, length, rules}
use Rattle.std.specs.Prelude.{if◌then◌else◌}
use Rattle.std.proofs.lemmas.List.{nil_from_length}
use Rattle.miette_show_rows.specs.rules.Rows.{is_quote_or_bracket, is_json_space, leads_in}
use Rattle.miette_show_rows.proofs.parts.leads_in.Goals as goal

module _ (rest more : List ℕ) (b : ℕ) (is : rest ≡ b ∷ more) where
  lead_here : is_json_space b ≡ false → is_quote_or_bracket b ≡ leads_in rest
  lead_here e = sym (ap leads_in is ∙ ap (λ t. if t then leads_in more else is_quote_or_bracket b) e)

  lead_later : is_json_space b ≡ true → leads_in more ≡ leads_in rest
  lead_later e = sym (ap leads_in is ∙ ap (λ t. if t then leads_in more else is_quote_or_bracket b) e)

pub returns-then-not-is_json_space : goal.returns-then-not-is_json_space
returns-then-not-is_json_space c =
    let b = c.in-Some.first.now in
    let here : is_json_space b ≡ false = search rules in
    c.is_quote_or_bracket.ensures ∙ lead_here c.loop-first.rest.now c.in-Some.more.now b c.in-Some.ensures.cases.0 here
    ∙ c.loop-first.invariant

pub loop-first-preserved : goal.loop-first-preserved
loop-first-preserved c =
    let later : is_json_space c.in-Some.first.now ≡ true = search rules in
    lead_later c.loop-first.rest.now c.in-Some.more.now c.in-Some.first.now c.in-Some.ensures.cases.0 later
    ∙ c.loop-first.invariant

pub returns : goal.returns
returns c =
    let none : length c.loop-first.rest.now ≡ 0 = search rules in
    sym (ap leads_in (nil_from_length c.loop-first.rest.now none)) ∙ c.loop-first.invariant
