use Rattle.std.proofs.Common.{List, ap, codes, refl, ℕ, ◌∙◌}
use Rattle.std.proofs.lemmas.Result.{on_ok_weaker}
use Rattle.std.specs.Prelude.{Option}
use Rattle.miette_json.proofs.WrittenSteps.{two_steps}
use Rattle.miette_json.specs.rules.Json.{Json}
use Rattle.miette_json.specs.rules.Writing.{with_key, with_value}
use Rattle.miette_sarif.proofs.Growing.{none_put, some_put}
use Rattle.miette_sarif.specs.rules.Codes.{rule_values_of}
use Rattle.miette_sarif.specs.rules.Objects.{array_of, listed, pair}
use Rattle.miette_sarif.specs.steps.Members.{with_pairs}
use Rattle.miette_sarif.specs.views.Rules.{codes_seen, uri_at}
use denote.Ref.{Bor}
use Rattle.miette_sarif.proofs.rules.Rules.push_all.Goals as goal

abbrev values : (List ℕ → Option (List ℕ)) → List (Bor (List ℕ)) → List Json
values uri cs = rule_values_of (codes_seen cs) uri

pub returns-then-is_empty : goal.returns-then-is_empty
returns-then-is_empty c =
    let uri = uri_at c.args.self.now.uris in
    none_put c.as_slice-codes.result.now (λ cs. listed (codes "rules") (values uri cs)) c.args.json.now
    c.is_empty.result refl c.is_empty.ensures c.if-is_empty.true
    ∙ ap (λ cs. with_pairs (listed (codes "rules") (values uri cs)) c.args.json.now) c.as_slice-codes.ensures.keys

pub returns : goal.returns
returns c =
    let old = c.args.json.now in
    let uri = uri_at c.args.self.now.uris in
    let seen = c.as_slice-codes.result.now in
    on_ok_weaker c.push_rules.result (λ put. some_put seen (λ cs. pair (codes "rules") (array_of (values uri cs)))
    (λ cs. listed (codes "rules") (values uri cs)) old _ c.is_empty.result (λ s ss. refl) c.is_empty.ensures
    c.if-is_empty.false (two_steps (with_key (codes "rules")) (with_value (array_of (values uri seen))) old _ _
    c.in_ok-key.ensures put)
    ∙ ap (λ cs. with_pairs (listed (codes "rules") (values uri cs)) old) c.as_slice-codes.ensures.keys)
    c.push_rules.ensures
