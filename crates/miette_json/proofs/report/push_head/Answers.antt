use Rattle.std.proofs.lemmas.Result.{IfOk-equal}
use Rattle.miette_json.proofs.report.push_head.Goals as goal

pub returns : goal.returns
returns g c =
    IfOk-equal c.string_member-2.result _ _ _ c.string_member-2.ensures
    (rw (
      c.severity_name.ensures,
      c.severity.ensures,
      c.in_ok-optional_string_member.ensures,
      c.code.ensures,
      c.in_ok-string_member.ensures,
      c.message.ensures,
    ))
