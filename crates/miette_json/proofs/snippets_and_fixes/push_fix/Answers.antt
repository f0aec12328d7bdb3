use Rattle.std.proofs.lemmas.Result.{IfOk-equal}
use Rattle.miette_json.proofs.snippets_and_fixes.push_fix.Goals as goal

pub returns : goal.returns
returns c =
    IfOk-equal c.end_object.result _ _ _ c.end_object.ensures
    (rw (
      c.in_ok-push_edits.ensures,
      c.edits.ensures,
      c.in_ok-key.ensures,
      c.in_ok-string_member-2.ensures,
      c.name.ensures,
      c.applicability.ensures,
      c.in_ok-string_member.ensures,
      c.message.ensures,
      c.in_ok-begin_object.ensures,
    ))
