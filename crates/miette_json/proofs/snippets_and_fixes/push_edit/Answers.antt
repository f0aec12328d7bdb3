use Rattle.std.proofs.lemmas.Result.{IfOk-equal}
use Rattle.miette_json.proofs.snippets_and_fixes.push_edit.Goals as goal

pub returns : goal.returns
returns c =
    IfOk-equal c.end_object.result _ _ _ c.end_object.ensures
    (rw (
      c.in_ok-string_member.ensures,
      c.text.ensures,
      c.in_ok-push_span.ensures,
      c.span.ensures,
      c.in_ok-key.ensures,
      c.in_ok-begin_object.ensures,
    ))
