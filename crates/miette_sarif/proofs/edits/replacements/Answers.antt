use Rattle.std.proofs.Common.{◌≡◌, ◌++◌, ◌∷◌, [], ap, append_assoc, map, sym, ◌∙◌}
use Rattle.std.proofs.lemmas.List.{map-append}
use Rattle.std.specs.Option.{option_map}
use Rattle.std.specs.Vec.Iter.{into_iter_items}
use Rattle.miette_sarif.specs.views.DraftValue.{draft_of}
use Rattle.miette_sarif.specs.views.Findings.{replacement_value_of}
use Rattle.miette_sarif.specs.steps.Drafts.{made_of}
use Rattle.miette_sarif.proofs.Finishing.{none_made, one_made}
use Rattle.miette_sarif.proofs.edits.replacements.Goals as goal

pub loop-draft-preserved : goal.loop-draft-preserved
loop-draft-preserved c =
    let l = c.loop-draft in
    let draft = c.in-Some.draft in
    let new = map replacement_value_of c.push.new.self.items in
    let steps : into_iter_items l.draft-iterator ≡ draft ∷ into_iter_items c.next.new.self =
    c.in-Some.ensures.steps.0 in
    record {
      left = append_assoc l.yielded (draft ∷ []) (into_iter_items c.next.new.self)
          ∙ ap (λ rest. l.yielded ++ rest) (sym steps) ∙ l.invariant.left;
      made = ap (made_of c.args.bytes.now) (map-append draft_of l.yielded (draft ∷ []))
          ∙ one_made c.args.bytes.now (map draft_of l.yielded) (draft_of draft) (map replacement_value_of l.list.items)
          new
          (replacement_value_of c.in-Some-2.replacement) l.invariant.made
          (ap (option_map replacement_value_of) (sym c.in-Some-2.is) ∙ c.in_ok-replacement.ensures)
          (ap (map replacement_value_of) c.in_ok-push-in-Some-2.ensures.items
          ∙ map-append replacement_value_of l.list.items (c.in-Some-2.replacement ∷ []));
    }

pub returns-in-None-2 : goal.returns-in-None-2
returns-in-None-2 c =
    let l = c.loop-draft in
    let draft = c.in-Some.draft in
    let rest = into_iter_items c.next.new.self in
    let steps : into_iter_items l.draft-iterator ≡ draft ∷ rest = c.in-Some.ensures.steps.0 in
    let all : c.args.drafts.items ≡ l.yielded ++ draft ∷ rest =
    sym (ap (λ more. l.yielded ++ more) (sym steps) ∙ l.invariant.left
    ∙ c.into_iter-draft-iterator.ensures.into_iter_gives.0) in
    none_made c.args.bytes.now (map draft_of l.yielded) (map draft_of rest) (map draft_of c.args.drafts.items)
    (draft_of draft) (ap (map draft_of) all ∙ map-append draft_of l.yielded (draft ∷ rest))
    (ap (option_map replacement_value_of) (sym c.in-None-2.is) ∙ c.in_ok-replacement.ensures)
