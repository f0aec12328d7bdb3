use Rattle.std.proofs.Common.{◌≡◌, ◌<◌, ◌∷◌, [], ◌∙◌, ℕ, List, ap, length, map, subst, sym, rules}
use Rattle.std.specs.Prelude.{Vec}
use Rattle.std.specs.declared.alloc.Global.{Global}
use Rattle.std.proofs.lemmas.List.{map-append, nil_from_length}
use Rattle.miette_devices.specs.declared.fault.ProgramError.TheVariants.{Read}
use Rattle.miette_show_rows.specs.views.Reading.{left_of}
use Rattle.miette_show_rows.proofs.NoteEnds.{not_failed}
use Rattle.miette_show_rows.proofs.PartSteps.{PartsLeft, parts_end, parts_more}
use Rattle.miette_show.proofs.parts.read_parts.Goals as goal

abbrev items_of : Vec ℕ Global → List ℕ
items_of part = part.items

pub loop-init : goal.loop-init
loop-init g c = record {
  sound = c.requires.sound;
  left = search rules;
}

pub returns-then-is_empty-clause-parts : goal.returns-then-is_empty-clause-parts
returns-then-is_empty-clause-parts g c =
    let none : length c.next_part.new.part.items ≡ 0 = search rules in
    parts_end _ _ _ (map items_of c.loop.parts.items) c.next_part.new.part.items
    (nil_from_length c.next_part.new.part.items none) c.loop.invariant.left c.in_ok-next_part.ensures.part

pub loop-preserved : goal.loop-preserved
loop-preserved g c =
    let l = c.loop in
    let part = c.next_part.new.part in
    let some : 0 < length part.items = search rules in
    record {
      sound = not_failed _ _ Read c.in_ok-next_part.ensures.failed;
      left = subst (PartsLeft (left_of g.R.Read.remaining c.args.rows.now)
          (left_of g.R.Read.remaining c.next_part.new.self))
          (sym (ap (map items_of) c.in_ok-push_item.ensures ∙ map-append items_of l.parts.items (part ∷ [])))
          (parts_more _ _ _ (map items_of l.parts.items) part.items some l.invariant.left
          c.in_ok-next_part.ensures.part);
    }
