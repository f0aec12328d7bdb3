-- The sources of a described report always read.
use Rattle.std.proofs.Common.{◌≡◌, ℕ, List, [], ◌∷◌, Option, Some, None, option_map, Ordering, Less, Equal, Greater}
use Rattle.std.proofs.Common.{Bool, true, false, refl, subst, IfSome, codes, nat_cmp}
use Rattle.std.proofs.Common.{All}
use Rattle.std.proofs.lemmas.List.Elements.{All-nil, All-cons}
use Rattle.std.specs.Prelude.{is_some, unwrap_or, if◌then◌else◌}
use Rattle.std.specs.Ordering.{match_ordering}
use Rattle.std.specs.Cmp.Lexicographic.{slice_cmp}
use Rattle.serde_json.specs.Data.{Data, array, object, Items, no_items, item, Members}
use Rattle.serde_json.specs.Data.{no_members, member}
use Rattle.serde_json.specs.Find.{as_array, as_null, as_str}
use Rattle.serde_json.specs.Written.{has_float}
use Rattle.miette_protocol.specs.rules.Reading.{Source}
use Rattle.miette_tree.specs.rules.Diagnosis.{Diagnosis, Section}
use Rattle.miette_tree.specs.rules.Tree.{Tree, tree, Trees, no_trees, wrapped_tree}
use Rattle.miette_tree.specs.rules.Reads.{AlwaysReads, CauseAlwaysReads, AllAlwaysRead}
use Rattle.miette_description.specs.rules.Members.{and_then, at_key, optional_value, list_of, source_named}
use Rattle.miette_description.specs.rules.Members.{described_source}
use Rattle.miette_description.specs.rules.Members.{all_items, diagnosis_in, fix_of, label_of, meaning_in, snippets_of}
use Rattle.miette_description.specs.rules.Description.{one_cause, wrapped_in, tree_of_parts, report_from, nullable}
use Rattle.miette_description.specs.rules.Description.{report_in, cause_in, related_in, reports_in, each_in}
use Rattle.miette_description.specs.rules.Description.{described_tree}

-- ---- through options

any_given : {A B : Type 0} (Q : B → Type 0) (o : Option A) (f : A → Option B) → ((x : A) → IfSome (f x) Q)
    → IfSome (and_then o f) Q
any_given Q None f h = tt
any_given Q (Some x) f h = h x

given_with : {A B : Type 0} (P : A → Type 0) (Q : B → Type 0) (o : Option A) (f : A → Option B) → IfSome o P
    → ((x : A) → P x → IfSome (f x) Q) → IfSome (and_then o f) Q
given_with P Q None f p h = tt
given_with P Q (Some x) f p h = h x p

mapped : {A B : Type 0} (P : A → Type 0) (Q : B → Type 0) (o : Option A) (f : A → B) → IfSome o P
    → ((x : A) → P x → Q (f x)) → IfSome (option_map f o) Q
mapped P Q None f p h = tt
mapped P Q (Some x) f p h = h x p

-- what may be absent, and has a fact where it is there
abbrev Maybe : {A : Type 0} → (A → Type 0) → Option (Option A) → Type 0
Maybe P o = IfSome o (λ x. IfSome x P)

typed_with : {A : Type 0} (P : A → Type 0) (reads : Data → Option A) (o : Option Data)
    → ((d : Data) → IfSome (reads d) P) → Maybe P (optional_value reads o)
typed_with P reads None h = tt
typed_with P reads (Some d) h = mapped P (λ x. IfSome x P) (reads d) Some (h d) (λ x p. p)

nullable_with : {A : Type 0} (P : A → Type 0) (b : Bool) (o : Option A) → IfSome o P
    → Maybe P (if b then Some None else option_map Some o)
nullable_with P true o p = tt
nullable_with P false o p = mapped P (λ x. IfSome x P) o Some p (λ x q. q)

looked_up : {A : Type 0} (P : A → Type 0) (o : Ordering) (here later : Option (Option A)) → Maybe P here → Maybe P later
    → Maybe P (match_ordering o later here later)
looked_up P Less here later h l = l
looked_up P Equal here later h l = h
looked_up P Greater here later h l = l

-- ---- the parts

abbrev Reads : Source → Type 0
Reads s = s.always_reads ≡ true

named_reads : (bytes : List ℕ) (name language : Option (List ℕ)) → Reads (source_named bytes name language)
named_reads bytes None language = refl
named_reads bytes (Some name) language = refl

source_reads : (d : Data) → IfSome (described_source d) Reads
source_reads d =
    any_given Reads (and_then (at_key (codes "text") d) as_str) _ (λ bytes.
    any_given Reads (optional_value as_str (at_key (codes "name") d)) _ (λ name.
    any_given Reads (optional_value as_str (at_key (codes "language") d)) _
    (λ language. named_reads bytes name language)))

one_cause_reads : (one : Option Tree) (several : Option (List (List ℕ))) → IfSome one AlwaysReads
    → IfSome (one_cause one several) CauseAlwaysReads
one_cause_reads None several r = tt
one_cause_reads (Some t) None r = r
one_cause_reads (Some t) (Some ts) r = tt

wrapped_reads : (message : List ℕ) (t : Tree) → AlwaysReads t → AlwaysReads (wrapped_tree message t)
wrapped_reads message (tree m s c r) reads = (reads.0, tt, reads.2, reads.3)

wrapped_in_reads : (ms : List (List ℕ)) (t : Tree) → AlwaysReads t → AlwaysReads (wrapped_in ms t)
wrapped_in_reads [] t r = r
wrapped_in_reads (m ∷ ms) t r = wrapped_in_reads ms (wrapped_tree m t) (wrapped_reads m t r)

related_reads : (related : Option Trees) → IfSome related AllAlwaysRead → AllAlwaysRead (unwrap_or related no_trees)
related_reads None r = tt
related_reads (Some ts) r = r

-- labels over a further source that always reads
abbrev Further : Section → Type 0
Further section = section.source.always_reads ≡ true

snippets_read : (d : Data) → IfSome (snippets_of d) Further
snippets_read d =
    given_with Reads Further (and_then (at_key (codes "source") d) described_source) _
    (any_given Reads (at_key (codes "source") d) described_source source_reads)
    (λ source r. any_given Further (optional_value (list_of label_of) (at_key (codes "labels") d)) _ (λ labels. r))

each_snippets_read : (ds : Items) → IfSome (all_items snippets_of ds) (All Further)
each_snippets_read no_items = All-nil Further
each_snippets_read (item d ds) =
    given_with Further (All Further) (snippets_of d) _ (snippets_read d) (λ s r.
    given_with (All Further) (All Further) (all_items snippets_of ds) _ (each_snippets_read ds)
    (λ ss rs. All-cons Further s ss r rs))

or_none : (o : Option (List Section)) → IfSome o (All Further) → All Further (unwrap_or o [])
or_none None r = All-nil Further
or_none (Some sections) r = r

diagnosis_reads : (d : Data) → IfSome (diagnosis_in d) (λ m. All Further m.snippets)
diagnosis_reads d =
    let P : Diagnosis → Type 0 = λ m. All Further m.snippets in
    any_given P (meaning_in d) _ (λ m.
    given_with (λ o. IfSome o (All Further)) P (optional_value (list_of snippets_of) (at_key (codes "snippets") d)) _
    (typed_with (All Further) (list_of snippets_of) (at_key (codes "snippets") d)
    (λ e. any_given (All Further) (as_array e) (all_items snippets_of) each_snippets_read)) (λ snippets r.
    any_given P (optional_value (list_of fix_of) (at_key (codes "fixes") d)) _ (λ fixes. or_none snippets r)))

assembled_reads : (m : Diagnosis) (s : Option Source) (one : Option Tree) (several : Option (List (List ℕ)))
    (related : Option Trees) (contexts : Option (List (List ℕ)))
    → All Further m.snippets → IfSome s Reads → IfSome one AlwaysReads → IfSome related AllAlwaysRead
    → IfSome (tree_of_parts m s one several related contexts) AlwaysReads
assembled_reads m s one several related contexts q a b c =
    mapped CauseAlwaysReads AlwaysReads (one_cause one several)
    (λ cause. wrapped_in (unwrap_or contexts []) (tree m s cause (unwrap_or related no_trees)))
    (one_cause_reads one several b)
    (λ cause p. wrapped_in_reads (unwrap_or contexts []) (tree m s cause (unwrap_or related no_trees))
    (a, p, related_reads related c, q))

parts_read : (cause : Option (Option Tree)) (related : Option (Option Trees)) (d : Data) → Maybe AlwaysReads cause
    → Maybe AllAlwaysRead related → IfSome (report_from cause related d) AlwaysReads
parts_read cause related d c r =
    given_with (λ m. All Further m.snippets) AlwaysReads (diagnosis_in d) _ (diagnosis_reads d) (λ m q.
    given_with (λ s. IfSome s Reads) AlwaysReads (optional_value described_source (at_key (codes "source") d)) _
    (typed_with Reads described_source (at_key (codes "source") d) source_reads) (λ s a.
    given_with (λ one. IfSome one AlwaysReads) AlwaysReads cause _ c (λ one b.
    any_given AlwaysReads (optional_value (list_of as_str) (at_key (codes "causes") d)) _ (λ several.
    given_with (λ list. IfSome list AllAlwaysRead) AlwaysReads related _ r (λ list e.
    any_given AlwaysReads (optional_value (list_of as_str) (at_key (codes "contexts") d)) _
    (λ contexts. assembled_reads m s one several list contexts q a b e))))))

-- ---- the whole

mutual
  report_reads : (d : Data) → IfSome (report_in d) AlwaysReads
  report_reads (object ms) = parts_read (cause_in ms) (related_in ms) (object ms) (cause_reads ms) (list_reads ms)
  report_reads d = tt

  cause_reads : (ms : Members) → Maybe AlwaysReads (cause_in ms)
  cause_reads no_members = tt
  cause_reads (member k d ms) =
      looked_up AlwaysReads (slice_cmp nat_cmp (codes "cause") k) (nullable d (report_in d)) (cause_in ms)
      (nullable_with AlwaysReads (is_some (as_null d)) (report_in d) (report_reads d)) (cause_reads ms)

  list_reads : (ms : Members) → Maybe AllAlwaysRead (related_in ms)
  list_reads no_members = tt
  list_reads (member k d ms) =
      looked_up AllAlwaysRead (slice_cmp nat_cmp (codes "related") k) (nullable d (reports_in d)) (related_in ms)
      (nullable_with AllAlwaysRead (is_some (as_null d)) (reports_in d) (reports_read d)) (list_reads ms)

  reports_read : (d : Data) → IfSome (reports_in d) AllAlwaysRead
  reports_read (array ds) = each_reads ds
  reports_read d = tt

  each_reads : (ds : Items) → IfSome (each_in ds) AllAlwaysRead
  each_reads no_items = tt
  each_reads (item d ds) =
      given_with AlwaysReads AllAlwaysRead (report_in d) _ (report_reads d) (λ t r.
      given_with AllAlwaysRead AllAlwaysRead (each_in ds) _ (each_reads ds) (λ ts rs. (r, rs)))

unless_float : (b : Bool) (o : Option Tree) → IfSome o AlwaysReads → IfSome (if b then None else o) AlwaysReads
unless_float true o r = tt
unless_float false o r = r

pub described_reads : (d : Data) (t : Tree) → described_tree d ≡ Some t → AlwaysReads t
described_reads d t e = subst (λ o. IfSome o AlwaysReads) e (unless_float (has_float d) (report_in d) (report_reads d))
