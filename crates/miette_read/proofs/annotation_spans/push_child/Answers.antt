use Rattle.std.proofs.Common.{◌≡◌, ◌<◌, List, [], ◌∷◌, ◌++◌, Bool, false, Bor, length, OnOk, ap, sym, refl, subst, ◌∙◌}
use Rattle.std.proofs.Common.{rules, arith}
use Rattle.std.specs.Prelude.{if◌then◌else◌, not, filter}
use Rattle.serde_json.specs.Data.{Data}
use Rattle.serde_json.specs.View.{view}
use Rattle.serde_json.specs.declared.value.Value.{Value}
use Rattle.miette_read.specs.rules.Places.{Annotation}
use Rattle.miette_read.specs.rules.Rustc.{child_annotations, edits_in_child, is_empty, note_annotations, is_annotation}
use Rattle.miette_read.specs.views.Builds.{built}
use Rattle.miette_read.specs.views.Values.{values_behind}
use Rattle.miette_read.proofs.annotation_spans.push_child.Goals as goal

some_seen : (vs : List (Bor Value)) → 0 < length vs → is_empty (values_behind vs) ≡ false
some_seen [] h = absurd (omega (arith, h))
some_seen (v ∷ vs) h = refl

chosen : {A : Type 0} (b : Bool) (x y : A) → b ≡ false → (if not b then x else y) ≡ x
chosen b x y e = ap (λ a. if not a then x else y) e

pub returns-then-not-is_empty : goal.returns-then-not-is_empty
returns-then-not-is_empty g c =
    let build = built g.F.Files.found c.args.build.now in
    let child = view c.args.child.now in
    let edits = c.in_ok-edits_in_child.field-0.items in
    let beside = λ (ss : List Data). note_annotations build [] (filter is_annotation ss) in
    let full : 0 < length edits = search rules in
    let some : is_empty (edits_in_child child) ≡ false = ap is_empty (sym c.in_ok-edits_in_child.ensures)
    ∙ some_seen edits full in
    let told : beside (values_behind c.as_slice.result.now) ≡ child_annotations build child =
    ap (λ (vs : List (Bor Value)). beside (values_behind vs)) c.as_slice.ensures.value ∙ ap beside c.in_ok-spans.ensures
    ∙ sym (chosen (is_empty (edits_in_child child)) _ _ some)
    in
    let list = c.args.list.now.items in
    subst (λ (l : List Annotation). OnOk c.push_beside.result (c.push_beside.new.list.items ≡ list ++ l)) told
    c.push_beside.ensures
