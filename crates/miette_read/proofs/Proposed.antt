-- What is proposed stands in the report.
use Rattle.std.proofs.Common.{◌≡◌, ◌⊎◌, ℕ, List, [], ◌∷◌, ◌++◌, Option, Some, None, Bool, true, false, map, codes}
use Rattle.std.proofs.Common.{length, refl, sym, ap, subst, ◌∙◌, inl, inr}
use Rattle.std.specs.Prelude.{◌||◌, if◌then◌else◌}
use Rattle.std.specs.List.{AllByRecursion, Any, Contains, flat_map, fold, list_any}
use Rattle.std.proofs.lemmas.Option.{same_Some}
use Rattle.std.proofs.lemmas.Slice.Eq.{bytes_eq-Decides}
use Rattle.miette_fixes.specs.declared.applicability.Applicability.{Applicability}
use Rattle.miette_fixes.specs.rules.ApplyingAll.{conflict}
use Rattle.miette_fixes.specs.rules.Edits.{FixModel, Replacement}
use Rattle.miette_protocol.specs.rules.Reading.{Source}
use Rattle.miette_read.specs.rules.Places.{ByteRange, Annotation}
use Rattle.miette_read.specs.rules.SuggestedFixes.{FileEdit, Suggestion, SplitFixes, all_parts, begun, fix_by, fixes_in}
use Rattle.miette_read.specs.rules.SuggestedFixes.{is_in}
use Rattle.miette_read.specs.rules.SuggestedFixes.{with_edit, with_item}
use Rattle.miette_read.specs.rules.Reports.{MessageParts, advice, advice_of, is_main, main_fixes, first_edits_of_others}
use Rattle.miette_read.specs.rules.Reports.{report_tree}
use Rattle.miette_read.specs.rules.Reports.{with_other}
use Rattle.miette_read.specs.rules.AnnotationLabels.{FileLabel, first_accepting, is_label_at, accepts_label}
use Rattle.miette_read.specs.rules.AnnotationLabels.{main_file_name, with_new_label}
use Rattle.miette_read.specs.rules.AnnotationLabels.{no_label_lists, label_lists, with_more_rows}
use Rattle.miette_read.proofs.Accepted.{AllFit, nth, settled_fits}
use Rattle.miette_read.proofs.ReportsRead.{either}
use Rattle.miette_tree.specs.rules.Tree.{Tree, trees}
use Rattle.miette_read.specs.laws.Proposed.{AnyOf, HasEdit, IsAdvice, IsOfFile, IsSuggested}
use Rattle.miette_read.proofs.Holding.{Has, Is, has_after, has_any, has_by, has_each, has_flat, has_it, has_map}
use Rattle.miette_read.proofs.Holding.{has_more, it_is_there}
use Rattle.miette_read.proofs.Made.{all_advice, all_fixes, fixes_made, source_made}
use Rattle.miette_read.proofs.KeptSteps.{all_keep, retold}

-- ---- the fixes of a proposal over a file

module _ (name message : List ℕ) (sure : Applicability) (edit : Replacement) where
  abbrev IsOf : FixModel → Type 0
  IsOf fix = (fix.message ≡ message) × (fix.applicability ≡ sure)

  abbrev IsIn : FixModel → Type 0
  IsIn fix = IsOf fix × Has (Is edit) fix.edits

  abbrev IsThere : SplitFixes → Type 0
  IsThere p = Has IsIn p.done ⊎ IsIn p.fix

  -- the edit begins a further fix, or joins the one at hand
  abbrev begins : SplitFixes → Replacement → SplitFixes
  begins p e = record { done = p.done ++ p.fix ∷ []; fix = record p.fix { edits = e ∷ [] } }

  abbrev joins : SplitFixes → Replacement → SplitFixes
  joins p e = record p { fix = record p.fix { edits = p.fix.edits ++ e ∷ [] } }

  -- what stands in a fix stays
  stays_by : (p : SplitFixes) (e : Replacement) (b : Bool) → IsThere p
      → IsThere (if b then begins p e else joins p e)
  stays_by p e true (inl h) = inl (has_more IsIn p.done (p.fix ∷ []) h)
  stays_by p e true (inr h) = inl (has_after IsIn p.done (p.fix ∷ []) (inl h))
  stays_by p e false (inl h) = inl h
  stays_by p e false (inr h) = inr (h.0, has_more (Is edit) p.fix.edits (e ∷ []) h.1)

  item_stays : (p : SplitFixes) (x : FileEdit) → IsThere p → IsThere (with_item name p x)
  item_stays p x h =
      either IsThere (is_in name x) (with_edit p x.edit) p
      (stays_by p x.edit (list_any (conflict x.edit) p.fix.edits) h) h

  all_stay : (xs : List FileEdit) (p : SplitFixes) → IsThere p → IsThere (fold (with_item name) p xs)
  all_stay [] p h = h
  all_stay (x ∷ xs) p h = all_stay xs (with_item name p x) (item_stays p x h)

  -- the fix at hand has these words, and is this sure
  words_by : (p : SplitFixes) (e : Replacement) (b : Bool) → IsOf p.fix
      → IsOf (if b then begins p e else joins p e).fix
  words_by p e true h = h
  words_by p e false h = h

  words_stay : (p : SplitFixes) (x : FileEdit) → IsOf p.fix → IsOf (with_item name p x).fix
  words_stay p x h =
      either (λ (q : SplitFixes). IsOf q.fix) (is_in name x) (with_edit p x.edit) p
      (words_by p x.edit (list_any (conflict x.edit) p.fix.edits) h) h

  -- an edit of the file comes into a fix
  comes_by : (p : SplitFixes) (b : Bool) → IsOf p.fix
      → IsThere (if b then begins p edit else joins p edit)
  comes_by p true h = inr (h, inl refl)
  comes_by p false h = inr (h, has_after (Is edit) p.fix.edits (edit ∷ []) (inl refl))

  item_by : (p : SplitFixes) (x : FileEdit) (b : Bool) → b ≡ true → x.edit ≡ edit → IsOf p.fix
      → IsThere (if b then with_edit p x.edit else p)
  item_by p x false e is h = cc
  item_by p x true e is h =
      subst (λ (k : Replacement). IsThere (with_edit p k)) (sym is)
      (comes_by p (list_any (conflict edit) p.fix.edits) h)

  abbrev IsEditOf : FileEdit → Type 0
  IsEditOf x = (is_in name x ≡ true) × (x.edit ≡ edit)

  all_come : (xs : List FileEdit) (p : SplitFixes) → IsOf p.fix → Has IsEditOf xs
      → IsThere (fold (with_item name) p xs)
  all_come [] p h there = absurd there
  all_come (x ∷ xs) p h (inl it) =
      all_stay xs (with_item name p x) (item_by p x (is_in name x) it.0 it.1 h)
  all_come (x ∷ xs) p h (inr there) = all_come xs (with_item name p x) (words_stay p x h) there

  has_edit : (fix : FixModel) → IsIn fix → HasEdit message sure edit fix
  has_edit fix h = (h.0.0, h.0.1, it_is_there fix.edits edit h.1)

  fix_there : (fix : FixModel) (es : List Replacement) → Has (Is edit) es → IsIn fix → Has IsIn (fix_by fix es)
  fix_there fix [] there h = absurd there
  fix_there fix (e ∷ es) there h = inl h

  parts_have : (p : SplitFixes) → IsThere p → Has IsIn (all_parts p)
  parts_have p (inl h) = has_more IsIn p.done (fix_by p.fix p.fix.edits) h
  parts_have p (inr h) =
      has_after IsIn p.done (fix_by p.fix p.fix.edits) (fix_there p.fix p.fix.edits h.1 h)

  pub fixes_have : (xs : List FileEdit) → Has IsEditOf xs
      → Has (HasEdit message sure edit) (all_parts (fold (with_item name) (begun message sure) xs))
  fixes_have xs there =
      has_each IsIn (HasEdit message sure edit) has_edit
      (all_parts (fold (with_item name) (begun message sure) xs))
      (parts_have (fold (with_item name) (begun message sure) xs)
      (all_come xs (begun message sure) (refl, refl) there))

-- an edit stands in a fix over its file
own_fixes : (offer : Suggestion) (e : FileEdit) (name message : List ℕ) → e.name ≡ name → Has (Is e) offer.edits
    → Has (HasEdit message offer.applicability e.edit) (fixes_in name message offer)
own_fixes offer e name message is there =
    fixes_have name message offer.applicability e.edit offer.edits
    (has_each (Is e) (IsEditOf name message offer.applicability e.edit)
    (λ x same. (
      subst (λ (k : FileEdit). is_in name k ≡ true) (sym same) ((bytes_eq-Decides e.name name).1 is),
      ap (λ (k : FileEdit). k.edit) same,
    )) offer.edits there)

-- ---- the files of edits but the main one

module _ (files : List ℕ → Option Source) (main : Option (List ℕ)) (e : FileEdit) (beside : is_main main e ≡ false)
  where
    -- an edit of the same file
    abbrev IsLike : FileEdit → Type 0
    IsLike x = (x.name ≡ e.name) × IsOfFile files x

    like_by : (found : List FileEdit) → AllByRecursion (IsOfFile files) found
        → Has (λ (x : FileEdit). is_in e.name x ≡ true) found → Has IsLike found
    like_by [] of h = absurd h
    like_by (x ∷ xs) of (inl is) = inl ((bytes_eq-Decides x.name e.name).0 is, of.0)
    like_by (x ∷ xs) of (inr h) = inr (like_by xs of.1 h)

    like_there : (found : List FileEdit) → AllByRecursion (IsOfFile files) found → list_any (is_in e.name) found ≡ true
        → Has IsLike found
    like_there found of there = like_by found of (has_by (is_in e.name) found there)

    other_by : (found : List FileEdit) (a b : Bool) → a ≡ false → list_any (is_in e.name) found ≡ b
        → AllByRecursion (IsOfFile files) found → IsOfFile files e
        → Has IsLike (if a || b then found else found ++ e ∷ [])
    other_by found true b beside there of it = cc
    other_by found false true beside there of it = like_there found of there
    other_by found false false beside there of it = has_after IsLike found (e ∷ []) (inl (refl, it))

    other_stays : (found : List FileEdit) (x : FileEdit) → Has IsLike found → Has IsLike (with_other main found x)
    other_stays found x h =
        either (Has IsLike) (is_main main x || list_any (is_in x.name) found) found (found ++ x ∷ []) h
        (has_more IsLike found (x ∷ []) h)

    others_stay : (xs found : List FileEdit) → Has IsLike found → Has IsLike (fold (with_other main) found xs)
    others_stay [] found h = h
    others_stay (x ∷ xs) found h = others_stay xs (with_other main found x) (other_stays found x h)

    all_next : (found : List FileEdit) (x : FileEdit) → AllByRecursion (IsOfFile files) found → IsOfFile files x
        → AllByRecursion (IsOfFile files) (found ++ x ∷ [])
    all_next [] x of it = (it, tt)
    all_next (y ∷ ys) x of it = (of.0, all_next ys x of.1 it)

    other_of : (found : List FileEdit) (x : FileEdit) → AllByRecursion (IsOfFile files) found → IsOfFile files x
        → AllByRecursion (IsOfFile files) (with_other main found x)
    other_of found x of it =
        either (AllByRecursion (IsOfFile files)) (is_main main x || list_any (is_in x.name) found) found
        (found ++ x ∷ []) of (all_next found x of it)

    others_have : (xs found : List FileEdit) → AllByRecursion (IsOfFile files) found
        → AllByRecursion (IsOfFile files) xs → Has (Is e) xs → Has IsLike (fold (with_other main) found xs)
    others_have [] found of all there = absurd there
    others_have (x ∷ xs) found of all (inl is) =
        others_stay xs (with_other main found x)
        (subst (λ (k : FileEdit). Has IsLike (with_other main found k)) (sym is)
        (other_by found (is_main main e) (list_any (is_in e.name) found) beside refl of
        (subst (IsOfFile files) is all.0)))
    others_have (x ∷ xs) found of all (inr there) =
        others_have xs (with_other main found x) (other_of found x of all.0) all.1 there

-- ---- what is related

any_advice : (holds : Tree → Type 0) (ts : List Tree) → Has holds ts → AnyOf holds (trees ts)
any_advice holds [] h = absurd h
any_advice holds (t ∷ ts) (inl it) = inl it
any_advice holds (t ∷ ts) (inr h) = inr (any_advice holds ts h)

advice_is : (files : List ℕ → Option Source) (offer : Suggestion) (e x : FileEdit) → IsOfFile files e
    → Has (Is e) offer.edits → x.name ≡ e.name → IsOfFile files x → IsAdvice offer e (advice offer x)
advice_is files offer e x of there same it =
    let source : Some x.source ≡ Some e.source = sym it ∙ (ap files same ∙ of) in
    let fixes = own_fixes offer e x.name (codes "in " ++ x.name) (sym same) there in (
      refl,
      source,
      has_any (HasEdit (codes "in " ++ e.name) offer.applicability e.edit)
          (fixes_in x.name (codes "in " ++ x.name) offer)
          (subst (λ (k : List ℕ). Has (HasEdit (codes "in " ++ k) offer.applicability e.edit)
          (fixes_in x.name (codes "in " ++ x.name) offer)) same fixes),
    )

advice_there : (files : List ℕ → Option Source) (main : Option (List ℕ)) (offer : Suggestion) (e : FileEdit)
    → is_main main e ≡ false → AllByRecursion (IsOfFile files) offer.edits → IsOfFile files e
    → Has (Is e) offer.edits → Has (IsAdvice offer e) (advice_of main offer)
advice_there files main offer e beside all of there =
    has_map (IsLike files main e beside) (IsAdvice offer e) (advice offer)
    (λ x like. advice_is files offer e x of there like.0 like.1) (first_edits_of_others main offer.edits)
    (others_have files main e beside offer.edits [] tt all there)

-- ---- the file of the first list

abbrev pub Begins : List FileLabel → List Source → Type 0
Begins [] ss = ss ≡ []
Begins (m ∷ ms) ss = m.list ≡ 0

begins_again : (name : List ℕ) (s : ByteRange) (t : Annotation) (ms : List FileLabel) (ss : List Source) → Begins ms ss
    → Begins (map (with_more_rows name s t) ms) ss
begins_again name s t [] ss h = h
begins_again name s t (m ∷ ms) ss h = either (λ (y : FileLabel). y.list ≡ 0) (is_label_at name s m) (retold t m) m h h

begins_newly : (ms : List FileLabel) (ss : List Source) (ts : List (List ℕ)) (name : List ℕ) (source : Source)
    (s : ByteRange) (t : Annotation) → Begins ms ss
    → Begins (with_new_label (record { marks = ms; files = ss; texts = ts }) name source s t).marks
    (with_new_label (record { marks = ms; files = ss; texts = ts }) name source s t).files
begins_newly [] ss ts name source s t h =
    subst (λ (fs : List Source). first_accepting (accepts_label [] name source.bytes s t.own) 0 (length fs) ≡ 0) (sym h)
    refl
begins_newly (m ∷ ms) ss ts name source s t h = h

pub all_begin : (files : List ℕ → Option Source) (told : List Annotation)
    → Begins (label_lists files told).marks (label_lists files told).files
all_begin files told =
    all_keep files (λ done. Begins done.marks done.files) (λ done text h. h)
    (λ done name s t h. begins_again name s t done.marks done.files h)
    (λ done name source s t is_in_scope is h. begins_newly done.marks done.files done.texts name source s t h) told
    no_label_lists tt refl

pub main_file : (files : List ℕ → Option Source) (ss : List Source) (ms : List FileLabel) (name : List ℕ)
    → AllFit files ss ms → Begins ms ss → main_file_name ms ≡ Some name → files name ≡ nth ss 0
main_file files ss [] name is_in_scope h is = cc
main_file files ss (m ∷ ms) name is_in_scope h is =
    let f = is_in_scope.0 in
    subst (λ k. files k ≡ nth ss 0) (same_Some m.name name is)
    (f.1 ∙ sym (subst (λ k. nth ss k ≡ Some f.0) h f.2))

-- ---- the whole

of_file : (files : List ℕ → Option Source) (e : FileEdit) (es : List FileEdit) → AllByRecursion (IsOfFile files) es
    → Has (Is e) es → IsOfFile files e
of_file files e [] all h = absurd h
of_file files e (x ∷ xs) all (inl is) = subst (IsOfFile files) is all.0
of_file files e (x ∷ xs) all (inr h) = of_file files e xs all.1 h

module _ (files : List ℕ → Option Source) (told : List Annotation) (offer : Suggestion) (e : FileEdit)
    (all : AllByRecursion (IsOfFile files) offer.edits) (of : IsOfFile files e) (there : Has (Is e) offer.edits) where
  main_by : (main : Option (List ℕ)) → main_file_name (label_lists files told).marks ≡ main → (b : Bool)
      → is_main main e ≡ b
      → (offers : List Suggestion) → Has (Is offer) offers
      → ((nth (label_lists files told).files 0 ≡ Some e.source)
      × Has (HasEdit offer.message offer.applicability e.edit) (flat_map (main_fixes main) offers))
      ⊎ Has (IsAdvice offer e) (flat_map (advice_of main) offers)
  main_by main is false beside offers here =
      inr (has_flat (Is offer) (IsAdvice offer e) (advice_of main)
      (λ o same. subst (λ (k : Suggestion). Has (IsAdvice offer e) (advice_of main k)) (sym same)
      (advice_there files main offer e beside all of there)) offers here)
  main_by None is true beside offers here = cc
  main_by (Some name) is true meets offers here =
      let same : name ≡ e.name = (bytes_eq-Decides name e.name).0 meets in
      let done = label_lists files told in
      let first =
      main_file files done.files done.marks name (settled_fits files told no_label_lists tt)
      (all_begin files told) is in
      let source : nth done.files 0 ≡ Some e.source = sym first ∙ (ap files same ∙ of) in
      inl (
        source,
        has_flat (Is offer) (HasEdit offer.message offer.applicability e.edit) (main_fixes (Some name))
            (λ o at. subst (λ (k : Suggestion). Has (HasEdit offer.message offer.applicability e.edit)
            (main_fixes (Some name) k)) (sym at) (own_fixes offer e name offer.message (sym same) there)) offers here,
      )

  proposed_by : (said : MessageParts) (offers : List Suggestion)
      → ((nth (label_lists files told).files 0 ≡ Some e.source)
      × Has (HasEdit offer.message offer.applicability e.edit) (all_fixes (label_lists files told) offers))
      ⊎ Has (IsAdvice offer e) (all_advice (label_lists files told) offers)
      → IsSuggested offer e (report_tree said (label_lists files told) offers)
  proposed_by said offers (inl own) =
      let done = label_lists files told in
      let fixes = all_fixes done offers in
      let more = trees (all_advice done offers) in
      inl (
        source_made said done fixes more done.files ∙ own.0,
        subst (Any (HasEdit offer.message offer.applicability e.edit))
            (sym (fixes_made said done fixes more done.files))
            (has_any (HasEdit offer.message offer.applicability e.edit) fixes own.1),
      )
  proposed_by said offers (inr advised) =
      inr (any_advice (IsAdvice offer e) (all_advice (label_lists files told) offers) advised)

pub edit_proposed : (files : List ℕ → Option Source) (said : MessageParts) (told : List Annotation)
    (offers : List Suggestion)
    (offer : Suggestion) (e : FileEdit)
    → Contains offers offer → AllByRecursion (IsOfFile files) offer.edits → Contains offer.edits e
    → IsSuggested offer e (report_tree said (label_lists files told) offers)
edit_proposed files said told offers offer e here all there =
    let edit = has_it (Is e) offer.edits e there refl in
    let it = has_it (Is offer) offers offer here refl in
    let main = main_file_name (label_lists files told).marks in
    let of = of_file files e offer.edits all edit in
    proposed_by files told offer e all of edit said offers
    (main_by files told offer e all of edit main refl (is_main main e) refl offers it)
