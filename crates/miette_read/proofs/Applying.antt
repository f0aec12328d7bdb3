-- Each fix that is made of proposals can be applied.
use Rattle.std.proofs.Common.{◌≡◌, ℕ, ◌≤◌, List, [], ◌∷◌, ◌++◌, Option, Some, None, Bool, true, false, arith}
use Rattle.std.proofs.Common.{codes, length, map, refl, sym, ap, subst, ◌∙◌, inl, inr}
use Rattle.std.specs.Prelude.{◌||◌, ◌==◌, if◌then◌else◌}
use Rattle.std.specs.List.{AllByRecursion, flat_map, fold, list_any}
use Rattle.std.proofs.lemmas.Bool.{and_left, cases_order, cond-false, cond-true, le-ltb, lt-ltb, ne_eqb, or_from}
use Rattle.std.proofs.lemmas.Bool.{eqb-false, or_left, or_parts}
use Rattle.std.proofs.lemmas.Option.{same_Some}
use Rattle.std.proofs.lemmas.Slice.Eq.{bytes_eq-Decides}
use Rattle.miette_fixes.specs.rules.Applying.{edits_error}
use Rattle.miette_fixes.specs.rules.ApplyingAll.{conflict}
use Rattle.miette_fixes.specs.rules.Edits.{FixModel, Replacement, ends_after, is_after, overlap, some_overlap}
use Rattle.miette_protocol.specs.rules.Reading.{Source}
use Rattle.miette_read.specs.rules.Places.{Annotation}
use Rattle.miette_read.specs.rules.SuggestedFixes.{FileEdit, Suggestion, SplitFixes, begun, fix_by, fixes_in, is_in}
use Rattle.miette_read.specs.rules.SuggestedFixes.{with_edit, with_item}
use Rattle.miette_read.specs.rules.Reports.{MessageParts, advice, advice_of, is_main, main_fixes, first_edits_of_others}
use Rattle.miette_read.specs.rules.Reports.{report_tree}
use Rattle.miette_read.specs.rules.Reports.{with_other}
use Rattle.miette_read.specs.rules.AnnotationLabels.{FileLabel, main_file_name, no_label_lists, label_lists}
use Rattle.miette_read.proofs.Accepted.{AllFit, nth, settled_fits}
use Rattle.miette_read.proofs.ReportsRead.{either}
use Rattle.miette_tree.specs.rules.Tree.{Tree, source_of, trees}
use Rattle.miette_read.specs.laws.Applying.{AllFixesApply, AllOf, AreFound, CanBeApplied, FixesApply, IsFound}
use Rattle.miette_read.proofs.Holding.{all_each, all_more}
use Rattle.miette_read.proofs.Made.{all_advice, all_fixes, fixes_made, source_made}
use Rattle.miette_read.proofs.Proposed.{Begins, all_begin, main_file}

-- ---- edits that don't conflict

-- where they begin apart, they overlap alike in both orders
same_overlap : (e x : Replacement) → (e.span.offset == x.span.offset) ≡ false → overlap x e ≡ overlap e x
same_overlap e x apart =
    elim (cases_order e.span.offset x.span.offset) [
      | inl same ↦ absurd (eqb-false _ _ apart same)
      | inr (inl less) ↦
          (let below : e.span.offset ≤ x.span.offset = omega (arith, less) in
          let differ = ne_eqb x.span.offset e.span.offset (λ same. omega (arith, less, same)) in
          cond-true (is_after x e) _ _ (or_left _ _ (lt-ltb e.span.offset x.span.offset less))
          ∙ sym (cond-false (is_after e x) _ _
          (or_from _ _ (le-ltb x.span.offset e.span.offset below) (and_left _ _ differ))))
      | inr (inr more) ↦
          (let below : x.span.offset ≤ e.span.offset = omega (arith, more) in
          cond-false (is_after x e) _ _
          (or_from _ _ (le-ltb e.span.offset x.span.offset below) (and_left _ _ apart))
          ∙ sym (cond-true (is_after e x) _ _ (or_left _ _ (lt-ltb x.span.offset e.span.offset more))))
    ]

no_overlap : (e x : Replacement) → conflict e x ≡ false → overlap x e ≡ false
no_overlap e x h = let parts = or_parts _ _ h in same_overlap e x parts.0 ∙ parts.1

none_more : (p : Replacement → Bool) (es : List Replacement) (e : Replacement) → list_any p es ≡ false → p e ≡ false
    → list_any p (es ++ e ∷ []) ≡ false
none_more p [] e h k = or_from (p e) false k refl
none_more p (x ∷ xs) e h k =
    let parts = or_parts (p x) (list_any p xs) h in
    or_from (p x) (list_any p (xs ++ e ∷ [])) parts.0 (none_more p xs e parts.1 k)

none_overlap : (es : List Replacement) (e : Replacement) → some_overlap es ≡ false → list_any (conflict e) es ≡ false
    → some_overlap (es ++ e ∷ []) ≡ false
none_overlap [] e h k = refl
none_overlap (x ∷ xs) e h k =
    let parts = or_parts (list_any (overlap x) xs) (some_overlap xs) h in
    let conflicts = or_parts (conflict e x) (list_any (conflict e) xs) k in
    or_from (list_any (overlap x) (xs ++ e ∷ [])) (some_overlap (xs ++ e ∷ []))
    (none_more (overlap x) xs e parts.0 (no_overlap e x conflicts.0)) (none_overlap xs e parts.1 conflicts.1)

-- ---- the fixes of a proposal over a file of `n` bytes

module _ (name : List ℕ) (n : ℕ) where
  abbrev IsGood : FixModel → Type 0
  IsGood fix = (some_overlap fix.edits ≡ false) × (list_any (ends_after n) fix.edits ≡ false)

  abbrev AreGood : SplitFixes → Type 0
  AreGood p = AllByRecursion IsGood p.done × IsGood p.fix

  good_next : (fixes : List FixModel) (fix : FixModel) → AllByRecursion IsGood fixes → IsGood fix
      → AllByRecursion IsGood (fixes ++ fix ∷ [])
  good_next fixes fix h k = all_more IsGood fixes (fix ∷ []) h (k, tt)

  good_by : (p : SplitFixes) (e : Replacement) (b : Bool) → list_any (conflict e) p.fix.edits ≡ b
      → ends_after n e ≡ false → AreGood p
      → AreGood (if b
      then record { done = p.done ++ p.fix ∷ []; fix = record p.fix { edits = e ∷ [] } }
      else record p { fix = record p.fix { edits = p.fix.edits ++ e ∷ [] } })
  good_by p e true is within h = (good_next p.done p.fix h.0 h.1, (refl, or_from (ends_after n e) false within refl))
  good_by p e false is within h =
      (h.0, (none_overlap p.fix.edits e h.1.0 is, none_more (ends_after n) p.fix.edits e h.1.1 within))

  abbrev EndsWithin : FileEdit → Type 0
  EndsWithin x = is_in name x ≡ true → ends_after n x.edit ≡ false

  item_by : (p : SplitFixes) (x : FileEdit) (b : Bool) → is_in name x ≡ b → EndsWithin x → AreGood p
      → AreGood (if b then with_edit p x.edit else p)
  item_by p x true is within h = good_by p x.edit (list_any (conflict x.edit) p.fix.edits) refl (within is) h
  item_by p x false is within h = h

  all_good : (xs : List FileEdit) (p : SplitFixes) → AllByRecursion EndsWithin xs → AreGood p
      → AreGood (fold (with_item name) p xs)
  all_good [] p within h = h
  all_good (x ∷ xs) p within h =
      all_good xs (with_item name p x) within.1 (item_by p x (is_in name x) refl within.0 h)

  last_good : (fix : FixModel) (es : List Replacement) → IsGood fix → AllByRecursion IsGood (fix_by fix es)
  last_good fix [] h = tt
  last_good fix (e ∷ es) h = (h, tt)

  fixes_good : (message : List ℕ) (offer : Suggestion) → AllByRecursion EndsWithin offer.edits
      → AllByRecursion IsGood (fixes_in name message offer)
  fixes_good message offer within =
      let p = fold (with_item name) (begun message offer.applicability) offer.edits in
      let good = all_good offer.edits (begun message offer.applicability) within (tt, (refl, refl)) in
      all_more IsGood p.done (fix_by p.fix p.fix.edits) good.0 (last_good p.fix p.fix.edits good.1)

  none_refused : (fix : FixModel) → IsGood fix → edits_error n fix.edits ≡ None
  none_refused fix h =
      cond-false (list_any (ends_after n) fix.edits) _ _ h.1 ∙ cond-false (some_overlap fix.edits) _ _ h.0

-- edits over a file that is found end within it
all_within : (files : List ℕ → Option Source) (name : List ℕ) (s : Source) → files name ≡ Some s
    → (es : List FileEdit) → AllByRecursion (IsFound files) es
    → AllByRecursion (EndsWithin name (length s.bytes)) es
all_within files name s is es h =
    all_each (IsFound files) (EndsWithin name (length s.bytes))
    (λ e found at. (
    let same : e.source ≡ s =
    same_Some e.source s (sym found.0 ∙ (ap files ((bytes_eq-Decides e.name name).0 at) ∙ is)) in
    subst (λ (k : Source). ends_after (length k.bytes) e.edit ≡ false) same found.1)) es h

fixes_apply : (files : List ℕ → Option Source) (name message : List ℕ) (s : Source) → files name ≡ Some s
    → (offer : Suggestion) → AreFound files offer → (o : Option Source) → o ≡ Some s
    → AllByRecursion (λ (fix : FixModel). (k : Source) × (o ≡ Some k) × (edits_error (length k.bytes) fix.edits ≡ None))
    (fixes_in name message offer)
fixes_apply files name message s is offer found o there =
    all_each (IsGood name (length s.bytes))
    (λ (fix : FixModel). (k : Source) × (o ≡ Some k) × (edits_error (length k.bytes) fix.edits ≡ None))
    (λ fix good. (s, there, none_refused name (length s.bytes) fix good)) (fixes_in name message offer)
    (fixes_good name (length s.bytes) message offer (all_within files name s is offer.edits found))

-- ---- those of all proposals

all_flat_by : {X Y : Type 0} (P : X → Type 0) (Q : Y → Type 0) (f : X → List Y)
    → ((x : X) → P x → AllByRecursion Q (f x)) → (xs : List X) → AllByRecursion P xs
    → AllByRecursion Q (flat_map f xs)
all_flat_by P Q f each [] h = tt
all_flat_by P Q f each (x ∷ xs) h =
    all_more Q (f x) (flat_map f xs) (each x h.0) (all_flat_by P Q f each xs h.1)

module _ (files : List ℕ → Option Source) (main : Option (List ℕ)) where
  other_found : (found : List FileEdit) (x : FileEdit) → AllByRecursion (IsFound files) found → IsFound files x
      → AllByRecursion (IsFound files) (with_other main found x)
  other_found found x h it =
      either (AllByRecursion (IsFound files)) (is_main main x || list_any (is_in x.name) found) found
      (found ++ x ∷ []) h (all_more (IsFound files) found (x ∷ []) h (it, tt))

  others_found : (xs found : List FileEdit) → AllByRecursion (IsFound files) found → AllByRecursion (IsFound files) xs
      → AllByRecursion (IsFound files) (fold (with_other main) found xs)
  others_found [] found h k = h
  others_found (x ∷ xs) found h k = others_found xs (with_other main found x) (other_found found x h k.0) k.1

  advice_apply : (offer : Suggestion) → AreFound files offer → (e : FileEdit) → IsFound files e
      → FixesApply (advice offer e)
  advice_apply offer found e it =
      fixes_apply files e.name (codes "in " ++ e.name) e.source it.0 offer found (Some e.source) refl

  all_map : (offer : Suggestion) → AreFound files offer → (es : List FileEdit) → AllByRecursion (IsFound files) es
      → AllByRecursion FixesApply (map (advice offer) es)
  all_map offer found [] h = tt
  all_map offer found (e ∷ es) h = (advice_apply offer found e h.0, all_map offer found es h.1)

  all_advice_apply : (offers : List Suggestion) → AllByRecursion (AreFound files) offers
      → AllByRecursion FixesApply (flat_map (advice_of main) offers)
  all_advice_apply offers h =
      all_flat_by (AreFound files) FixesApply (advice_of main)
      (λ offer found. all_map offer found (first_edits_of_others main offer.edits)
      (others_found offer.edits [] tt found)) offers h

all_of : (holds : Tree → Type 0) (ts : List Tree) → AllByRecursion holds ts → AllOf holds (trees ts)
all_of holds [] h = tt
all_of holds (t ∷ ts) h = (h.0, all_of holds ts h.1)

-- ---- those of the report itself

first_by : (files : List ℕ → Option Source) (ss : List Source) (ms : List FileLabel) (name : List ℕ)
    → AllFit files ss ms
    → Begins ms ss → main_file_name ms ≡ Some name → (s : Source) × (files name ≡ Some s) × (nth ss 0 ≡ Some s)
first_by files ss [] name is_in_scope h is = cc
first_by files ss (m ∷ ms) name is_in_scope h is =
    let f = is_in_scope.0 in
    let same = main_file files ss (m ∷ ms) name is_in_scope h is in
    let there : nth ss 0 ≡ Some f.0 = subst (λ k. nth ss k ≡ Some f.0) h f.2 in
    (f.0, same ∙ there, there)

first_file : (files : List ℕ → Option Source) (told : List Annotation) (name : List ℕ)
    → main_file_name (label_lists files told).marks ≡ Some name
    → (s : Source) × (files name ≡ Some s) × (nth (label_lists files told).files 0 ≡ Some s)
first_file files told name is =
    let is_in_scope = settled_fits files told no_label_lists tt in
    let begins = all_begin files told in
    first_by files (label_lists files told).files (label_lists files told).marks name is_in_scope begins is

own_apply : (files : List ℕ → Option Source) (told : List Annotation) (offers : List Suggestion) (o : Option Source)
    → o ≡ nth (label_lists files told).files 0 → AllByRecursion (AreFound files) offers → (main : Option (List ℕ))
    → main_file_name (label_lists files told).marks ≡ main
    → AllByRecursion (λ (fix : FixModel). (k : Source) × (o ≡ Some k) × (edits_error (length k.bytes) fix.edits ≡ None))
    (flat_map (main_fixes main) offers)
own_apply files told offers o there h None is =
    all_flat_by (AreFound files)
    (λ (fix : FixModel). (k : Source) × (o ≡ Some k) × (edits_error (length k.bytes) fix.edits ≡ None))
    (main_fixes None)
    (λ offer found. tt) offers h
own_apply files told offers o there h (Some name) is =
    let first = first_file files told name is in
    all_flat_by (AreFound files)
    (λ (fix : FixModel). (k : Source) × (o ≡ Some k) × (edits_error (length k.bytes) fix.edits ≡ None))
    (main_fixes (Some name))
    (λ offer found. fixes_apply files name offer.message first.0 first.1 offer found o (there ∙ first.2)) offers h

pub all_apply : (files : List ℕ → Option Source) (said : MessageParts) (told : List Annotation)
    (offers : List Suggestion)
    → AllByRecursion (AreFound files) offers → AllFixesApply (report_tree said (label_lists files told) offers)
all_apply files said told offers h =
    let done = label_lists files told in
    let main = main_file_name done.marks in
    let fixes = all_fixes done offers in
    let more = trees (all_advice done offers) in (
      subst (AllByRecursion (CanBeApplied (report_tree said done offers)))
          (sym (fixes_made said done fixes more done.files))
          (own_apply files told offers (source_of (report_tree said done offers))
          (source_made said done fixes more done.files) h main refl),
      all_of FixesApply (all_advice done offers) (all_advice_apply files main offers h),
    )
