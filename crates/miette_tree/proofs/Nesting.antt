-- Reports below a report: what is read for them, those that are next, and what stands below the last one.
use Rattle.std.proofs.Common.{◌≡◌, ℕ, suc, ◌+◌, ◌<◌, true, List, ◌∷◌, length, get_or, map, drop, add-one, Option, Some}
use Rattle.std.proofs.Common.{None, IfSome, Bor, sym, ap, subst, refl, ◌∙◌}
use Rattle.std.proofs.Math.Seq.{drop-cons}
use Rattle.miette_protocol.specs.rules.Reading.{Source}
use Rattle.miette_protocol.specs.views.Meaning.{Meaning}
use Rattle.miette_tree.specs.declared.tree.Report.{Report}
use Rattle.miette_tree.specs.declared.tree.Cause as shown
use Rattle.miette_tree.specs.declared.tree.Cause.TheVariants as seen
use Rattle.miette_tree.specs.rules.Chain.{texts_below}
use Rattle.miette_tree.specs.rules.Tree.{Tree, Cause, texts, more_trees, trees, effective}
use Rattle.miette_tree.specs.views.Report.{cause_view}

-- a source that always reads, if there is one
abbrev pub Reads : Option Source → Type 0
Reads source = IfSome source (λ s. s.always_reads ≡ true)

pub effective_reads : (own inherited : Option Source) → Reads own → Reads inherited → Reads (effective own inherited)
effective_reads None inherited p q = q
effective_reads (Some s) inherited p q = p

-- the one next of a list of reports
pub next_of : {R : Type 0} (value : R → Tree) (rs : List R) (i : ℕ) (d : R) → i < length rs → d ≡ get_or rs i d
    → trees (map value (drop i rs)) ≡ more_trees (value d) (trees (map value (drop (i + 1) rs)))
next_of value rs i d h is = ap (λ l. trees (map value l))
    (drop-cons rs i d h ∙ ap (λ x. x ∷ drop (suc i) rs) (sym is) ∙ ap (λ n. d ∷ drop n rs) (sym (add-one i)))

-- a cause that is shown as no report has only texts
pub texts_shown : {D S : Type 0} (means : D → Meaning) (is : S → Source) (r : shown.Cause D S) (c : Cause)
    → cause_view means is r ≡ c → ((x : Bor (Report D S)) → r ≡ seen.Diagnostic x → ⊥) →
    texts (texts_below c) ≡ c
texts_shown means is seen.None c e f = subst (λ k. texts (texts_below k) ≡ k) e refl
texts_shown means is (seen.Diagnostic x) c e f = absurd (f x refl)
texts_shown means is (seen.Texts ts) c e f = subst (λ k. texts (texts_below k) ≡ k) e refl
