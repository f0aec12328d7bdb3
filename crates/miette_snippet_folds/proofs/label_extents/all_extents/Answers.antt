use Rattle.std.proofs.Common.{ℕ, ◌+◌, ◌<◌, ◌≡◌, Bool, List, [], ◌∷◌, ◌++◌, length, map, take, get_or, sym, ap, ap₂, ◌∙◌}
use Rattle.std.proofs.Common.{subst, All}
use Rattle.std.proofs.lemmas.List.{map-append, take_more}
use Rattle.std.proofs.lemmas.List.Elements.{All-nil, All-push}
use Rattle.miette_protocol.specs.views.Meaning.{Label}
use Rattle.miette_protocol.specs.rules.Reading.{Source}
use Rattle.miette_labels.specs.declared.reading.ReadLabel.{ReadLabel}
use Rattle.miette_labels.specs.views.Reads.{IsRead}
use Rattle.miette_snippet_folds.specs.declared.folds.LabelExtent.{LabelExtent as MadeExtent}
use Rattle.miette_snippet_folds.specs.views.ExtentIndex.{extent_view}
use Rattle.miette_snippet_folds.specs.views.ReadExtents.{read_extent, HasLines}
use Rattle.miette_snippet_folds.proofs.label_extents.all_extents.Goals as goal

-- one label more
parts_more : (context : ℕ) (own : Bool) (labels : List Label) (reads : List ReadLabel) (i : ℕ) (r : ReadLabel)
    (items more : List MadeExtent) (label : MadeExtent) → i < length reads → r ≡ get_or reads i r →
    map extent_view items ≡ map (read_extent context own labels) (take i reads) → extent_view label
    ≡ read_extent context own labels r → more ≡ items ++ label ∷ [] →
    map extent_view more ≡ map (read_extent context own labels) (take (i + 1) reads)
parts_more context own labels reads i r items more label lt is h one e =
    ap (map extent_view) e ∙ map-append extent_view items (label ∷ [])
    ∙ ap₂ (λ xs x. xs ++ x ∷ []) h (one ∙ ap (read_extent context own labels) is)
    ∙ sym (map-append (read_extent context own labels) (take i reads) (get_or reads i r ∷ []))
    ∙ sym (ap (map (read_extent context own labels)) (take_more reads i r lt))

lines_more : (context : ℕ) (source : Source) (labels : List Label) (reads : List ReadLabel) (i : ℕ) (r : ReadLabel)
    (items more : List MadeExtent) (label : MadeExtent) → i < length reads → r ≡ get_or reads i r →
    All (IsRead context source labels) reads → All (HasLines source.bytes) items
    → (IsRead context source labels r → HasLines source.bytes label) → more ≡ items ++ label ∷ []
    → All (HasLines source.bytes) more
lines_more context source labels reads i r items more label lt is all h one e =
    let read : IsRead context source labels r = subst (λ (x : ReadLabel). IsRead context source labels x) (sym is)
    (all i r lt) in
    subst (λ (xs : List MadeExtent). All (HasLines source.bytes) xs) (sym e)
    (All-push (HasLines source.bytes) items label h (one read))

pub loop-read-init : goal.loop-read-init
loop-read-init c = record {
  parts = ap (map extent_view) c.in_ok-label_extents.ensures.items;
  lines = λ source all. subst (λ (xs : List MadeExtent). All (HasLines source.bytes) xs)
      (sym c.in_ok-label_extents.ensures.items) (All-nil (HasLines source.bytes));
}

pub loop-read-preserved : goal.loop-read-preserved
loop-read-preserved c = record {
  parts = parts_more c.args.context c.any_own_context-own.result c.args.labels.now c.args.reads.now
      c.loop-read.read-index
      c.read-item.result c.loop-read.label_extents.items c.push.new.self.items c.in_ok-label_extent.field-0
      c.loop-read-test.true c.read-item.is c.loop-read.invariant.parts c.in_ok-label_extent.ensures.parts
      c.in_ok-push.ensures.items;
  lines = λ source all.
      lines_more c.args.context source c.args.labels.now c.args.reads.now c.loop-read.read-index c.read-item.result
      c.loop-read.label_extents.items c.push.new.self.items c.in_ok-label_extent.field-0
      c.loop-read-test.true c.read-item.is all (c.loop-read.invariant.lines source all)
      (c.in_ok-label_extent.ensures.lines source) c.in_ok-push.ensures.items;
}
