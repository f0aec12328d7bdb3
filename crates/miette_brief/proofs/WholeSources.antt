-- Sources that were read for commands, from a report to those below it.
use Rattle.std.proofs.Common.{◌≡◌, ℕ, suc, zero, ◌+◌, ◌<◌, Bool, true, false, List, [], ◌∷◌, ◌++◌, refl, sym, ap, ◌∙◌}
use Rattle.std.proofs.Common.{ap₂, subst, arith, length, map, Option, Some, None, cond}
use Rattle.std.specs.Prelude.{nat_le, nat_lt, option_map, slice_get, unwrap_or}
use Rattle.std.specs.Option.{option_map_or}
use Rattle.std.proofs.lemmas.Bool.{ltb-true}
use Rattle.std.proofs.lemmas.Option.{slice_get_past}
use Rattle.miette_positions.specs.rules.Regions.{EncodedSource, region_of}
use Rattle.miette_protocol.specs.rules.Reading.{Source, Span}
use Rattle.miette_protocol.specs.views.Meaning.{Label}
use Rattle.miette_tree.specs.rules.Diagnosis.{Diagnosis}
use Rattle.miette_tree.specs.rules.DiagnosticParts.{given_labels}
use Rattle.miette_tree.specs.rules.Tree.{Tree, tree, Trees, effective, related_of}
use Rattle.miette_tree.proofs.TreeSizes.{cause_size, tree_size, trees_size}
use Rattle.miette_labels.specs.rules.Groups.{in_order, put_label}
use Rattle.miette_brief.specs.declared.form.BriefForm.{BriefForm}
use Rattle.miette_brief.specs.declared.form.BriefForm.TheVariants.{Gcc, Github}
use Rattle.miette_brief.specs.declared.whole_source.WholeSource.{WholeSource}
use Rattle.miette_brief.specs.declared.whole_source.WholeSource.TheVariants.{Nowhere, Unread, Read}
use Rattle.miette_brief.specs.rules.Commands.{FileLocation}
use Rattle.miette_brief.specs.rules.Github.{named_file_location}
use Rattle.miette_brief.specs.rules.LocatedLabels.{LocatedLabel, further_labels, located_label, marks}
use Rattle.miette_brief.specs.rules.Locations.{span_in_source}
use Rattle.miette_brief.specs.steps.PrimaryLabels.{IsPrimaryFileLocation, span_at, span_of_label}
use Rattle.miette_brief.specs.steps.Reads.{IsSpanUnread}
use Rattle.miette_brief.specs.steps.WholeSources.{AreOver, IsOwn, IsOwnIn, IsWholeSource, IsWholeIn, file_location_over}
use Rattle.miette_brief.proofs.Choosing.{nothing_met}

some_not_none : {X : Type 0} (x : X) → Some x ≡ None → ⊥
some_not_none x e = cc

get_mapped : {X Y : Type 0} (f : X → Y) (xs : List X) (at : ℕ) (x : X) → slice_get xs at ≡ Some x
    → slice_get (map f xs) at ≡ Some (f x)
get_mapped f [] at x e = cc
get_mapped f (y ∷ ys) zero x e = ap (λ o. option_map f o) e
get_mapped f (y ∷ ys) (suc at) x e = get_mapped f ys at x e

get_none : {X Y : Type 0} (f : X → Y) (xs : List X) (at : ℕ) → slice_get xs at ≡ None
    → slice_get (map f xs) at ≡ None
get_none f [] at e = slice_get_past [] at (omega arith)
get_none f (y ∷ ys) zero e = absurd (some_not_none y e)
get_none f (y ∷ ys) (suc at) e = get_none f ys at e

-- the spot of a label that is there, or isn't
pub spot_there : {X : Type 0} (f : X → LocatedLabel) (o : Option ℕ) (xs : List X) (at : ℕ) (x : X) → o ≡ Some at
    → slice_get xs at ≡ Some x → span_at o (map f xs) ≡ span_of_label (f x)
spot_there f o xs at x e l = ap (λ i. span_at i (map f xs)) e
    ∙ ap (λ q. option_map_or span_of_label q None) (get_mapped f xs at x l)

pub spot_missing : {X : Type 0} (f : X → LocatedLabel) (o : Option ℕ) (xs : List X) (at : ℕ) → o ≡ Some at
    → slice_get xs at ≡ None → span_at o (map f xs) ≡ None
spot_missing f o xs at e l = ap (λ i. span_at i (map f xs)) e
    ∙ ap (λ q. option_map_or span_of_label q None) (get_none f xs at l)

-- ---- below a report

-- all reports that are related to one are smaller than it
pub related_falls : (t : Tree) (ts : Trees) → ts ≡ related_of t → trees_size ts < tree_size t
related_falls (tree m s c r) ts e =
    subst (λ (x : Trees). trees_size x < suc (cause_size c + trees_size r)) (sym e) (omega arith)

own_or_else : (own inherited : Option Source) (mine : Option WholeSource) (it : WholeSource) → IsOwn own mine
    → IsWholeSource inherited it → IsWholeSource (effective own inherited) (unwrap_or mine it)
own_or_else None inherited None it h k = k
own_or_else None inherited (Some mine) it h k = absurd h
own_or_else (Some source) inherited None it h k = absurd h
own_or_else (Some source) inherited (Some mine) it h k = h

-- what a report lies over
pub whole_below : (form : BriefForm) (own inherited : Option Source) (mine : Option WholeSource) (it : WholeSource)
    → IsOwnIn form own mine → IsWholeIn form inherited it → IsWholeIn form (effective own inherited) (unwrap_or mine it)
whole_below Gcc own inherited mine it h k = tt
whole_below Github own inherited mine it h k = own_or_else own inherited mine it h k

pub whole_in : (form : BriefForm) (own inherited source : Option Source) (mine : Option WholeSource) (it below : WholeSource)
    → source ≡ effective own inherited → below ≡ unwrap_or mine it → IsOwnIn form own mine
    → IsWholeIn form inherited it → IsWholeIn form source below
whole_in form own inherited source mine it below es eb h k =
    subst (λ (o : Option Source). IsWholeIn form o below) (sym es)
    (subst (λ (w : WholeSource). IsWholeIn form (effective own inherited) w) (sym eb)
    (whole_below form own inherited mine it h k))

-- above all reports there is no source
pub nowhere_in : (form : BriefForm) → IsWholeIn form None Nowhere
nowhere_in Gcc = tt
nowhere_in Github = tt

-- ---- where a label lies

pub site_chosen : (source : Option Source) (span : Span) (w : WholeSource) (site : Option FileLocation)
    → IsWholeSource source w
    → Some site ≡ file_location_over w span → IsPrimaryFileLocation source (span_in_source source (Some span)) site
site_chosen None span Nowhere site h e = record { fault = false; possible = refl; is = ap (λ o. unwrap_or o None) e }
site_chosen None span Unread site h e = absurd h
site_chosen None span (Read text) site h e = absurd h
site_chosen (Some source) span Nowhere site h e = absurd h
site_chosen (Some source) span Unread site h e = absurd (some_not_none site e)
site_chosen (Some source) span (Read text) site h e =
    let none : Option FileLocation = None in
    record {
      fault = false;
      possible = nothing_met (Some source);
      is = ap (λ o. unwrap_or o none) e
          ∙ ap₂ named_file_location h.name (ap (λ (p : EncodedSource). region_of p.encoding p.source span) h.index);
    }

pub site_unread : (source : Option Source) (span : Span) (w : WholeSource) → IsWholeSource source w
    → file_location_over w span ≡ None
    → IsSpanUnread (span_in_source source (Some span))
site_unread None span Nowhere h e = absurd (some_not_none _ e)
site_unread None span Unread h e = absurd h
site_unread None span (Read text) h e = absurd h
site_unread (Some source) span Nowhere h e = absurd h
site_unread (Some source) span Unread h e = record {
  spot = record { source = source; span = span };
  is = refl;
  unread = λ accepted. h;
}
site_unread (Some source) span (Read text) h e = absurd (some_not_none _ e)

-- a label at a place of a list of which the first `n` lie over a source
pub label_over : {X : Type 0} (f : X → LocatedLabel) (source : Option Source) (n : ℕ) (xs : List X) (at : ℕ) (x : X)
    → AreOver source n (map f xs) → slice_get xs at ≡ Some x → nat_lt at n ≡ true → (f x).source ≡ source
label_over f source n xs at x h e t =
    h at (f x) (ltb-true at n t) (get_mapped f xs at x e)

-- ---- the labels of a diagnostic over its first source

put_or : (label next : Label) (labels put : List Label) (b : Bool) → length put ≡ suc (length labels)
    → length (cond b (label ∷ next ∷ labels) (next ∷ put)) ≡ suc (suc (length labels))
put_or label next labels put true h = refl
put_or label next labels put false h = ap suc h

put_length : (label : Label) (labels : List Label) → length (put_label label labels) ≡ suc (length labels)
put_length label [] = refl
put_length label (next ∷ labels) =
    put_or label next labels (put_label label labels) (nat_le label.span.offset next.span.offset)
    (put_length label labels)

order_length : (labels : List Label) → length (in_order labels) ≡ length labels
order_length [] = refl
order_length (label ∷ labels) = put_length label (in_order labels) ∙ ap suc (order_length labels)

the_same : (source : Option Source) (label : Label) (it : LocatedLabel) → Some (located_label source label) ≡ Some it
    → it.source ≡ source
the_same source label it e = sym (ap (λ o. (unwrap_or o it).source) e)

first_over : (source : Option Source) (labels : List Label) (rest : List LocatedLabel)
    → AreOver source (length labels) (map (located_label source) labels ++ rest)
first_over source [] rest at it lt e = absurd (omega (arith, lt))
first_over source (label ∷ labels) rest zero it lt e = the_same source label it e
first_over source (label ∷ labels) rest (suc at) it lt e =
    first_over source labels rest at it (omega (arith, lt)) e

pub own_over : (source : Option Source) (m : Diagnosis) (n : ℕ) (its : List LocatedLabel) → n
    ≡ length (given_labels m.labels)
    → its ≡ marks source m → AreOver source n its
own_over source m n its en ei =
    let labels : List Label = in_order (given_labels m.labels) in
    let first : AreOver source (length labels) (marks source m) = first_over source labels (further_labels m.snippets)
    in
    let size : length labels ≡ n = order_length (given_labels m.labels) ∙ sym en in
    subst (λ (l : List LocatedLabel). AreOver source n l) (sym ei)
    (subst (λ (k : ℕ). AreOver source k (marks source m)) size first)
