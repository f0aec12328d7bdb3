-- The fixes of an offer after those that a list has already.
use Rattle.std.proofs.Common.{◌≡◌, ℕ, ◌≤◌, List, [], ◌∷◌, ◌++◌, Bool, true, false, length, take, refl, sym, ap, ◌∙◌}
use Rattle.std.proofs.Common.{append_assoc, append-nil}
use Rattle.std.specs.Prelude.{if◌then◌else◌}
use Rattle.std.specs.List.{fold, list_any}
use Rattle.std.proofs.lemmas.List.{take_all}
use Rattle.miette_fixes.specs.declared.applicability.Applicability.{Applicability}
use Rattle.miette_fixes.specs.rules.ApplyingAll.{conflict}
use Rattle.miette_fixes.specs.rules.Edits.{FixModel, Replacement}
use Rattle.miette_read.specs.rules.SuggestedFixes.{FileEdit, SplitFixes, all_parts, begun, fix_by, is_in, with_edit}
use Rattle.miette_read.specs.rules.SuggestedFixes.{with_item}
use Rattle.miette_read.specs.rules.SuggestedFixes.{without_edits}

abbrev after_done : List FixModel → SplitFixes → SplitFixes
after_done before p = record { done = before ++ p.done; fix = p.fix }

either_after : (before : List FixModel) (b : Bool) (p q r s : SplitFixes) → p ≡ after_done before r
    → q ≡ after_done before s → (if b then p else q) ≡ after_done before (if b then r else s)
either_after before true p q r s e f = e
either_after before false p q r s e f = f

edit_after : (before : List FixModel) (p : SplitFixes) (e : Replacement)
    → with_edit (after_done before p) e ≡ after_done before (with_edit p e)
edit_after before p e =
    let next : List FixModel → SplitFixes = λ d. record { done = d; fix = record p.fix { edits = e ∷ [] } } in
    either_after before (list_any (conflict e) p.fix.edits) _ _ _ _
    (ap next (append_assoc before p.done (p.fix ∷ []))) refl

item_after : (name : List ℕ) (before : List FixModel) (p : SplitFixes) (item : FileEdit)
    → with_item name (after_done before p) item ≡ after_done before (with_item name p item)
item_after name before p item = either_after before (is_in name item) _ _ _ _ (edit_after before p item.edit) refl

items_after : (name : List ℕ) (before : List FixModel) (p : SplitFixes) (es : List FileEdit)
    → fold (with_item name) (after_done before p) es ≡ after_done before (fold (with_item name) p es)
items_after name before p [] = refl
items_after name before p (e ∷ es) =
    ap (λ (q : SplitFixes). fold (with_item name) q es) (item_after name before p e)
    ∙ items_after name before (with_item name p e) es

pub all_parted : (name message : List ℕ) (sure : Applicability) (before now : List FixModel) (fix : FixModel)
    (es : List FileEdit) (i : ℕ) → length es ≤ i
    → fold (with_item name) (record { done = before; fix = without_edits message sure }) (take i es)
    ≡ record { done = now; fix = fix }
    → now ++ fix_by fix fix.edits ≡ before ++ all_parts (fold (with_item name) (begun message sure) es)
all_parted name message sure before now fix es i full is =
    let begin : List FixModel → SplitFixes = λ d. record { done = d; fix = without_edits message sure } in
    let parts = fold (with_item name) (begun message sure) es in
    let here : SplitFixes = record { done = now; fix = fix } in
    let all : here ≡ after_done before parts =
    sym is ∙ ap (λ (l : List FileEdit). fold (with_item name) (begin before) l) (take_all i es full)
    ∙ ap (λ d. fold (with_item name) (begin d) es) (sym (append-nil before))
    ∙ items_after name before (begun message sure) es
    in
    ap all_parts all ∙ append_assoc before parts.done (fix_by parts.fix parts.fix.edits)
