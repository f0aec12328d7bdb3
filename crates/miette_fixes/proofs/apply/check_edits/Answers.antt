use Rattle.std.proofs.Common.{◌≡◌, ◌∙◌, None, Some, ap, position}
use Rattle.miette_fixes.specs.rules.Edits.{ends_after}
use Rattle.miette_fixes.specs.views.Ordered.{edits_of}
use Rattle.miette_fixes.proofs.Overlaps.{checked, none_outside, outside_found}
use Rattle.miette_fixes.proofs.apply.check_edits.Goals as goal

pub returns-in-Some-clause-refused : goal.returns-in-Some-clause-refused
returns-in-Some-clause-refused c = λ _. outside_found c.args.length c.args.edits.now c.in-Some.edit c.in-Some.ensures

pub returns-in-Some-find_overlap-clause-refused : goal.returns-in-Some-find_overlap-clause-refused
returns-in-Some-find_overlap-clause-refused c = λ _.
    let is = c.in_default.is in
    let found = c.first_outside.ensures in
    let none : None ≡ position (ends_after c.args.length) c.args.edits.now = cc in
    checked c.args.length c.args.edits.now (edits_of c.deref.result.now) (Some c.in-Some-find_overlap.error)
    (none_outside c.args.length c.args.edits.now none)
    (ap edits_of c.deref.ensures.value ∙ c.in_ok-list.ensures) c.in-Some-find_overlap.ensures

pub returns-clause-ok : goal.returns-clause-ok
returns-clause-ok c =
    let is = c.in_default.is in
    let found = c.first_outside.ensures in
    let none : None ≡ position (ends_after c.args.length) c.args.edits.now = cc in (
      checked c.args.length c.args.edits.now (edits_of c.deref.result.now) None
          (none_outside c.args.length c.args.edits.now none)
          (ap edits_of c.deref.ensures.value ∙ c.in_ok-list.ensures) c.in-None.ensures,
      c.in_ok-list.ensures,
    )
