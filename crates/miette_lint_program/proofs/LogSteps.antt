-- Steps of `lint --sarif`.
use Rattle.std.proofs.Common.{◌≡◌, ℕ, ◌<◌, Bool, true, false, List, [], ◌∷◌, ◌++◌, length, map, None}
use Rattle.std.proofs.Common.{refl, sym, ◌∙◌, subst, ap, ap₂, arith, eqb, eqb-true}
use Rattle.std.proofs.Common.{slice_index_or}
use Rattle.std.specs.List.{remove}
use Rattle.std.proofs.lemmas.Bool.Decides.{nat_tests}
use Rattle.std.proofs.lemmas.List.{map-append, nil_from_length}
use Rattle.miette_protocol.specs.rules.Reading.{named_source, plain_source}
use Rattle.miette_lint.specs.rules.FindingWithFixes.{FindingWithFixes, coded_findings}
use Rattle.miette_protocol.specs.rules.Reading.{Source}
use Rattle.miette_lsp.specs.rules.LogWords.{tool_called}
use Rattle.miette_sarif.specs.rules.LogText.{log_text}
use Rattle.miette_tree.proofs.Readings.{none_further}
use Rattle.miette_tree.specs.rules.Reads.{AllAlwaysRead}
use Rattle.miette_tree.specs.rules.Tree.{Tree, Trees, trees, with_related, with_source}
use Rattle.miette_lint_program.specs.rules.Logs.{finding_tree, finding_trees, lint_log}

-- ---- reports that always read

findings_read : (its : List FindingWithFixes) → AllAlwaysRead (trees (map finding_tree its))
findings_read [] = tt
findings_read (it ∷ its) = ((tt, tt, tt, none_further), findings_read its)

pub trees_read : (name input : List ℕ) (its : List FindingWithFixes) (ts : Trees) → ts ≡ finding_trees name input its
    → AllAlwaysRead ts
trees_read name input [] ts e = subst AllAlwaysRead (sym e) tt
trees_read name input (it ∷ its) ts e =
    subst AllAlwaysRead (sym e) ((refl, tt, findings_read its, none_further), tt)

-- ---- reports of findings

pub one_reported : {R F : Type 0} (value : R → Tree) (seen : F → FindingWithFixes) (done : List F) (it : F) (report : R)
    (old new : List R) → map value old ≡ map finding_tree (map seen done) → value report ≡ finding_tree (seen it)
    → new ≡ old ++ report ∷ [] → map value new ≡ map finding_tree (map seen (done ++ it ∷ []))
one_reported value seen done it report old new inv is put =
    ap (map value) put ∙ map-append value old (report ∷ [])
    ∙ ap₂ (λ l t. l ++ t ∷ []) inv is
    ∙ sym (ap (map finding_tree) (map-append seen done (it ∷ []))
    ∙ map-append finding_tree (map seen done) (seen it ∷ []))

positive : (n : ℕ) → false ≡ eqb n 0 → 0 < n
positive n h = grind (arith, nat_tests)

pub none_there : {R : Type 0} (rs slice : List R) (r : Bool) → slice ≡ rs → r ≡ eqb (length slice) 0 → r ≡ true
    → rs ≡ []
none_there rs slice r same e is = sym same ∙ nil_from_length slice (eqb-true _ _ (sym e ∙ is))

pub some_there : {R : Type 0} (rs slice : List R) (r : Bool) → slice ≡ rs → r ≡ eqb (length slice) 0 → r ≡ false
    → 0 < length rs
some_there {R} rs slice r same e is =
    subst (λ (l : List R). 0 < length l) same (positive (length slice) (sym is ∙ e))

-- where there are none
pub none_over : {R : Type 0} (value : R → Tree) (name input : List ℕ) (its : List FindingWithFixes) (rs : List R)
    → map value rs ≡ map finding_tree its → rs ≡ [] → trees (map value rs) ≡ finding_trees name input its
none_over value name input [] rs all none = ap (λ l. trees (map value l)) none
none_over value name input (it ∷ its) rs all none = let k = sym all ∙ ap (map value) none in cc

first_over : {R : Type 0} (value : R → Tree) (name input : List ℕ) (its : List FindingWithFixes) (first : R)
    (rs : List R)
    → value first ∷ map value rs ≡ map finding_tree its
    → trees (with_source (named_source (plain_source input) name None)
    (with_related (trees (map value rs)) (value first)) ∷ []) ≡ finding_trees name input its
first_over value name input [] first rs all = cc
first_over value name input (it ∷ its) first rs all =
    let one : value first ≡ finding_tree it = cc in
    let others : map value rs ≡ map finding_tree its = cc in
    ap₂ (λ t l. trees (with_source (named_source (plain_source input) name None) (with_related (trees l) t) ∷ []))
    one others

-- the first one over the input, with the others related to it
pub all_over : {R : Type 0} (value : R → Tree) (name input : List ℕ) (its : List FindingWithFixes)
    (rs rest list : List R)
    (first : R) (related made : R) (source : Source) → map value rs ≡ map finding_tree its → 0 < length rs
    → first ≡ slice_index_or rs 0 first → rest ≡ remove rs 0
    → source ≡ named_source (plain_source input) name None
    → value related ≡ with_related (trees (map value rest)) (value first)
    → value made ≡ with_source source (value related) → list ≡ made ∷ []
    → trees (map value list) ≡ finding_trees name input its
all_over value name input its [] rest list first related made source all some head tail of with over is =
    absurd (omega (arith, some))
all_over value name input its (r ∷ rs) rest list first related made source all some head tail of with over is =
    ap (λ l. trees (map value l)) is
    ∙ ap (λ t. trees (t ∷ [])) (over ∙ ap₂ with_source of with)
    ∙ ap₂ (λ f l. trees (with_source (named_source (plain_source input) name None)
    (with_related (trees (map value l)) (value f)) ∷ [])) head tail
    ∙ first_over value name input its r rs all

pub over_slice : {R : Type 0} (value : R → Tree) (name input : List ℕ) (its : List FindingWithFixes)
    (list slice : List R)
    → slice ≡ list → trees (map value list) ≡ finding_trees name input its
    → trees (map value slice) ≡ finding_trees name input its
over_slice value name input its list slice same over = ap (λ l. trees (map value l)) same ∙ over

-- ---- the log

pub log_is : (tool name : List ℕ) (width : ℕ) (input text bytes : List ℕ) (its : List FindingWithFixes) (ts : Trees)
    → its ≡ coded_findings bytes width → bytes ≡ input → ts ≡ finding_trees name input its
    → text ≡ log_text (tool_called tool) ts → text ≡ lint_log tool name width input
log_is tool name width input text bytes its ts found same over log =
    log ∙ ap (log_text (tool_called tool)) (over ∙ ap (finding_trees name input)
    (found ∙ ap (λ l. coded_findings l width) same))
