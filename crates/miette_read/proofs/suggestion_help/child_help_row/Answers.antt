use Rattle.std.proofs.Common.{◌≡◌, ◌<◌, ℕ, zero, suc, List, [], ◌∷◌, ◌++◌, Bor, codes, length, slice_index_or}
use Rattle.std.proofs.Common.{string_bytes}
use Rattle.std.proofs.Common.{ap, arith, refl, sym, ◌∙◌}
use Rattle.std.specs.List.{fold}
use Rattle.std.proofs.lemmas.List.{take_all}
use Rattle.serde_json.specs.View.{view}
use Rattle.miette_read.specs.rules.Rustc.{message_of}
use Rattle.miette_read.specs.rules.RustcReport.{quoted, with_further, with_texts}
use Rattle.miette_read.specs.views.Values.{texts}
use Rattle.miette_read.proofs.Steps.{fold_more}
use Rattle.miette_read.proofs.suggestion_help.child_help_row.Goals as goal

abbrev none : Bor (List ℕ)
none = record { ref_ptr = (0, 0); now = [] }

item_is : {V : Type 0} (xs : List V) (i : ℕ) (d : V) → i < length xs
    → slice_index_or xs i d ≡ slice_index_or xs i (slice_index_or xs i d)
item_is [] i d h = absurd (omega (arith, h))
item_is (x ∷ xs) zero d h = refl
item_is (x ∷ xs) (suc i) d h = item_is xs i d (omega (arith, h))

pub loop-text-preserved : goal.loop-text-preserved
loop-text-preserved c =
    let l = c.loop-text in
    let rest = c.in-Some.rest.now in
    fold_more (λ (x : Bor (List ℕ)). x.now) rest l.text-index (slice_index_or rest l.text-index none)
    c.loop-text-test.true (item_is rest l.text-index none c.loop-text-test.true) with_further
    (string_bytes c.push_quoted.new.row) (string_bytes l.row) (string_bytes c.push_quoted-in-loop-text.new.row)
    c.in_ok-push_quoted-2.ensures l.invariant

pub returns : goal.returns
returns c =
    let rest = c.in-Some.rest.now in
    let message = message_of (view c.args.child.now) in
    let first = c.in-Some.first.now in
    c.loop-text.invariant
    ∙ ap (λ (vs : List (Bor (List ℕ))). fold with_further (string_bytes c.push_quoted.new.row) (texts vs))
    (take_all c.loop-text.text-index rest c.loop-text-test.false)
    ∙ ap (λ r. fold with_further r (texts rest))
    (c.in_ok-push_quoted.ensures
    ∙ ap (λ r. r ++ (codes ": " ++ quoted first.now)) (c.in_ok-row.ensures.ok ∙ c.message_of.ensures))
    ∙ ap (λ (vs : List (Bor (List ℕ))). with_texts message (texts vs))
    (sym c.in-Some.ensures.cases.0 ∙ c.as_slice.ensures.value)
    ∙ ap (with_texts message) c.in_ok-texts.ensures
