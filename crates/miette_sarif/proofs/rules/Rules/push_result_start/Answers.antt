use Rattle.std.proofs.Common.{ap, codes, cond, sym, [], ◌++◌, ◌∙◌}
use Rattle.std.proofs.lemmas.Result.{on_ok_weaker}
use Rattle.std.specs.Prelude.{unwrap_or}
use Rattle.std.specs.Str.{bytes_eq}
use Rattle.miette_json.proofs.WrittenSteps.{three_steps}
use Rattle.miette_json.specs.rules.Json.{number, string}
use Rattle.miette_json.specs.rules.Writing.{with_key, with_value}
use Rattle.miette_sarif.proofs.Growing.{is_nothing}
use Rattle.miette_sarif.proofs.Keys.{position_codes}
use Rattle.miette_sarif.proofs.Noted.{not_nil}
use Rattle.miette_sarif.specs.rules.Artifacts.{index_of}
use Rattle.miette_sarif.specs.rules.Objects.{pair}
use Rattle.miette_sarif.specs.steps.Members.{with_pairs}
use Rattle.miette_sarif.specs.views.Rules.{codes_seen}
use Rattle.miette_sarif.proofs.rules.Rules.push_result_start.Goals as goal

pub returns-then-is_empty : goal.returns-then-is_empty
returns-then-is_empty c =
    let code = c.args.code.now in
    let level = pair (codes "level") (string c.args.level.now) in
    let whole = pair (codes "ruleId") (string code)
    ++ pair (codes "ruleIndex") (number (index_of (bytes_eq code) (codes_seen c.args.self.now.codes.keys))) in
    on_ok_weaker c.string_member.result (λ put. put ∙ ap (λ ps. with_pairs (ps ++ level) c.args.json.now)
    (sym (ap (λ b. cond b [] whole) (is_nothing code c.is_empty.result c.is_empty.ensures c.if-is_empty.true))))
    c.string_member.ensures

pub returns : goal.returns
returns c =
    let code = c.args.code.now in
    let keys = c.args.self.now.codes.keys in
    let level = pair (codes "level") (string c.args.level.now) in
    let id = pair (codes "ruleId") (string code) in
    let index = c.unwrap_or-index.ensures
    ∙ ap (λ o. unwrap_or o 0) (c.get_index_of.ensures.index ∙ position_codes code keys) in
    let whole = id ++ pair (codes "ruleIndex") (number (index_of (bytes_eq code) (codes_seen keys))) in
    on_ok_weaker c.string_member-3.result (λ put. three_steps
    (λ p. with_value (string code) (with_key (codes "ruleId") p))
    (λ p. with_value (number c.unwrap_or-index.result) (with_key (codes "ruleIndex") p))
    (λ p. with_value (string c.args.level.now) (with_key (codes "level") p)) c.args.json.now _ _ _
    c.in_ok-string_member.ensures c.in_ok-number_member.ensures put
    ∙ ap (λ ps. with_pairs (ps ++ level) c.args.json.now)
    (sym (ap (λ b. cond b [] whole) (not_nil code c.is_empty.result c.is_empty.ensures c.if-is_empty.false)
    ∙ ap (λ n. id ++ pair (codes "ruleIndex") (number n)) (sym index)))) c.string_member-3.ensures
