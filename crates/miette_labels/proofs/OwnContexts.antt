-- Labels of which some have their own context lines.
use Rattle.std.proofs.Common.{ℕ, ◌≡◌, max, Bool, false, cond, leb, List, [], ◌∷◌, Option, Some, None}
use Rattle.std.proofs.Common.{refl, sym, ap, ◌∙◌, subst}
use Rattle.std.specs.Prelude.{unwrap_or, is_some}
use Rattle.std.specs.List.{list_all, list_any, AllByRecursion}
use Rattle.miette_protocol.specs.views.Meaning.{Label}
use Rattle.miette_lines.specs.rules.Lists.{is_nil}
use Rattle.miette_labels.specs.rules.Around.{has_own_context, label_context}
use Rattle.miette_labels.specs.rules.Groups.{in_order, put_label}
use Rattle.miette_lines.proofs.Cases.{by_cases}
use Rattle.miette_labels.proofs.SortedLabels.{in_order_is, sorted_all, sorted_any, sorted_each}

-- ---- labels in order

pub order_each : (P : Label → Type 0) (labels : List Label) → AllByRecursion P labels
    → AllByRecursion P (in_order labels)
order_each P labels h = subst (λ (ls : List Label). AllByRecursion P ls) (in_order_is labels)
    (sorted_each (λ l. l.span.offset) P labels h)

pub order_any : (p : Label → Bool) (labels : List Label) → list_any p (in_order labels) ≡ list_any p labels
order_any p labels = ap (list_any p) (sym (in_order_is labels)) ∙ sorted_any (λ l. l.span.offset) p labels

pub order_all : (p : Label → Bool) (labels : List Label) → list_all p (in_order labels) ≡ list_all p labels
order_all p labels = ap (list_all p) (sym (in_order_is labels)) ∙ sorted_all (λ l. l.span.offset) p labels

put_some : (label : Label) (labels : List Label) → is_nil (put_label label labels) ≡ false
put_some label [] = refl
put_some label (next ∷ labels) =
    by_cases {C = is_nil (put_label label (next ∷ labels)) ≡ false} (leb label.span.offset next.span.offset)
    (λ t. rw t refl) (λ f. rw f refl)

pub order_nil : (labels : List Label) → is_nil (in_order labels) ≡ is_nil labels
order_nil [] = refl
order_nil (label ∷ labels) = put_some label (in_order labels)

pub own_ordered : (labels : List Label) → has_own_context (in_order labels) ≡ has_own_context labels
own_ordered labels = order_any (λ label. is_some label.context) labels

-- ---- where no label has its own number, all are read with the number for all

pub around_none : (context : ℕ) (own : Bool) (number : Option ℕ) → own ≡ false → is_some number ≡ false
    → unwrap_or number (cond own (max 1 context) context) ≡ context
around_none context own None e h = ap (λ b. cond b (max 1 context) context) e
around_none context own (Some n) e h = cc

pub none_around : (context : ℕ) (all : List Label) (label : Label) → has_own_context all ≡ false → is_some label.context
    ≡ false
    → label_context context all label ≡ context
none_around context all label e h = around_none context (has_own_context all) label.context e h
