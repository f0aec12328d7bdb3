-- A description by its parts, and a number that falls on the way down.
use Rattle.std.proofs.Common.{Global, ◌≡◌, ℕ, suc, zero, ◌<◌, ◌≤◌, List, [], ◌∷◌, length, get_or, Option, Some, None}
use Rattle.std.proofs.Common.{option_map, Ordering, Less, Equal, Greater, Bool, true, false, refl, sym, ap, ◌∙◌, codes}
use Rattle.std.proofs.Common.{arith, nat_cmp}
use Rattle.std.specs.Prelude.{is_some}
use Rattle.std.specs.Ordering.{match_ordering}
use Rattle.std.specs.Cmp.Lexicographic.{slice_cmp}
use Rattle.serde_json.specs.Data.{Data, null, boolean, number, string, array, object, Items, no_items, item, Members}
use Rattle.serde_json.specs.Data.{no_members, member, depth, items_depth, members_depth}
use Rattle.serde_json.specs.Find.{get, get_member, as_null, as_array, as_str}
use Rattle.miette_description.specs.steps.ParsedValues.{value_data, list_data}
use Rattle.json.specs.declared.value.Value.{Value}
use Rattle.miette_tree.specs.rules.Tree.{Tree, Trees, trees}
use Rattle.miette_description.specs.rules.Members.{and_then, present, at_key, optional_value, all_items, list_of}
use Rattle.miette_description.specs.rules.Members.{described_source, diagnosis_in}
use Rattle.miette_description.specs.rules.Description.{nullable, report_from, report_in, cause_in, related_in}
use Rattle.miette_description.specs.rules.Description.{reports_in, each_in}

typed_here : {A : Type 0} (b : Bool) (reads : Data → Option A) (d : Data) → is_some (as_null d) ≡ b
    → nullable d (reads d) ≡ optional_value reads (present (Some d))
typed_here true reads d e = simp e
typed_here false reads d e = simp e

there : {A : Type 0} (o : Ordering) (reads : Data → Option A) (here : Option (Option A)) (d : Data)
    (later : Option (Option A)) (rest : Option Data)
    → here ≡ optional_value reads (present (Some d)) → later ≡ optional_value reads (present rest)
    → match_ordering o later here later ≡ optional_value reads (present (match_ordering o rest (Some d) rest))
there Less reads here d later rest p q = q
there Equal reads here d later rest p q = p
there Greater reads here d later rest p q = q

pub cause_there : (ms : Members) → cause_in ms ≡ optional_value report_in (present (get_member (codes "cause") ms))
cause_there no_members = refl
cause_there (member k d ms) = there (slice_cmp nat_cmp (codes "cause") k) report_in (nullable d (report_in d)) d
    (cause_in ms) (get_member (codes "cause") ms) (typed_here _ report_in d refl) (cause_there ms)

pub related_there : (ms : Members) → related_in ms ≡ optional_value reports_in
    (present (get_member (codes "related") ms))
related_there no_members = refl
related_there (member k d ms) = there (slice_cmp nat_cmp (codes "related") k) reports_in (nullable d (reports_in d)) d
    (related_in ms) (get_member (codes "related") ms) (typed_here _ reports_in d refl) (related_there ms)

-- a description by what stands at its keys
pub report_parts : (d : Data) → report_in d ≡ report_from (optional_value report_in (at_key (codes "cause") d))
    (optional_value reports_in (at_key (codes "related") d)) d
report_parts null = refl
report_parts (boolean b) = refl
report_parts (number n) = refl
report_parts (string s) = refl
report_parts (array ds) = refl
report_parts (object ms) = ap (λ c. report_from c (related_in ms) (object ms)) (cause_there ms)
    ∙ ap (λ r. report_from (optional_value report_in (present (get_member (codes "cause") ms))) r (object ms))
    (related_there ms)

trees_of_all : (a : Option Tree) (b : Option Trees) (c : Option (List Tree)) → b ≡ option_map trees c
    → and_then a (λ t. and_then b (λ ts. Some (Trees.more_trees t ts)))
    ≡ option_map trees (and_then a (λ x. and_then c (λ xs. Some (x ∷ xs))))
trees_of_all None b c e = refl
trees_of_all (Some t) b None e = simp e
trees_of_all (Some t) b (Some ts) e = simp e

pub each_is : (ds : Items) → each_in ds ≡ option_map trees (all_items report_in ds)
each_is no_items = refl
each_is (item d ds) = trees_of_all (report_in d) (each_in ds) (all_items report_in ds) (each_is ds)

depth_at : (o : Ordering) (e d : Data) (rest : Option Data) (n m : ℕ) → match_ordering o rest (Some e) rest ≡ Some d
    → depth e ≤ m → n ≤ m → (rest ≡ Some d → depth d ≤ n) → depth d ≤ m
depth_at Less e d rest n m is p q later = omega (arith, later is)
depth_at Equal e d rest n m is p q later = let same : e ≡ d = cc in omega (arith, ap depth same)
depth_at Greater e d rest n m is p q later = omega (arith, later is)

get_member-depth : (key : List ℕ) (ms : Members) (d : Data) → get_member key ms ≡ Some d → depth d ≤ members_depth ms
get_member-depth key no_members d is = cc
get_member-depth key (member k e ms) d is =
    depth_at (slice_cmp nat_cmp key k) e d (get_member key ms) (members_depth ms) (members_depth (member k e ms)) is
    (omega arith) (omega arith) (get_member-depth key ms d)

get-depth : (key : List ℕ) (v d : Data) → get key v ≡ Some d → depth d < depth v
get-depth key null d is = cc
get-depth key (boolean b) d is = cc
get-depth key (number n) d is = cc
get-depth key (string s) d is = cc
get-depth key (array ds) d is = cc
get-depth key (object ms) d is = omega (arith, get_member-depth key ms d is)

present_is : (b : Bool) (e d : Data) → is_some (as_null e) ≡ b → present (Some e) ≡ Some d → e ≡ d
present_is true e d n is = let no : None ≡ Some d = simp n at is in cc
present_is false e d n is = let yes : Some e ≡ Some d = simp n at is in cc

from_present : (o : Option Data) (d : Data) → present o ≡ Some d → o ≡ Some d
from_present None d is = cc
from_present (Some e) d is = ap Some (present_is _ e d refl is)

-- what stands at a key is less deep
pub at_key-depth : (key : List ℕ) (v d : Data) → at_key key v ≡ Some d → depth d < depth v
at_key-depth key v d is = get-depth key v d (from_present (get key v) d is)

pub array-depth : (d : Data) (ds : Items) → as_array d ≡ Some ds → items_depth ds < depth d
array-depth null ds is = cc
array-depth (boolean b) ds is = cc
array-depth (number n) ds is = cc
array-depth (string s) ds is = cc
array-depth (array es) ds is = let same : es ≡ ds = cc in omega (arith, ap items_depth same)
array-depth (object ms) ds is = cc

pub item-depth : (vs : List (Value Global)) (i : ℕ) (v : Value Global) → i < length vs
    → depth (value_data (get_or vs i v)) ≤ items_depth (list_data vs)
item-depth [] i v h = absurd (omega arith)
item-depth (w ∷ vs) zero v h = omega arith
item-depth (w ∷ vs) (suc i) v h = omega (arith, item-depth vs i v (omega arith))

pub given_some : {A B : Type 0} {t : Option A} (x : A) (f : A → Option B) → t ≡ Some x → and_then t f ≡ f x
given_some x f e = ap (λ o. and_then o f) e

pub given_none : {A B : Type 0} {t : Option A} (f : A → Option B) → t ≡ None → and_then t f ≡ None
given_none f e = ap (λ o. and_then o f) e

given_never : {A B : Type 0} (o : Option A) (f : A → Option B) → ((x : A) → f x ≡ None) → and_then o f ≡ None
given_never None f never = refl
given_never (Some x) f never = never x

-- where a nested part is none, the description is none
pub without_cause : (c : Option (Option Tree)) (r : Option (Option Trees)) (d : Data) → c ≡ None → report_from c r d
    ≡ None
without_cause c r d none =
    given_never (diagnosis_in d) _ (λ m. given_never (optional_value described_source (at_key (codes "source") d)) _
    (λ s. given_none _ none))

pub without_related : (c : Option (Option Tree)) (r : Option (Option Trees)) (d : Data) → r ≡ None → report_from c r d
    ≡ None
without_related c r d none =
    given_never (diagnosis_in d) _ (λ m. given_never (optional_value described_source (at_key (codes "source") d)) _
    (λ s. given_never c _ (λ one.
    given_never (optional_value (list_of as_str) (at_key (codes "causes") d)) _ (λ several. given_none _ none))))

-- a description whose nested parts are these
pub with_nested : (d : Data) (c : Option Tree) (r : Option Trees) → optional_value report_in (at_key (codes "cause") d)
    ≡ Some c
    → optional_value reports_in (at_key (codes "related") d) ≡ Some r → report_in d ≡ report_from (Some c) (Some r) d
with_nested d c r cause related =
    report_parts d ∙ ap (λ o. report_from o (optional_value reports_in (at_key (codes "related") d)) d) cause
    ∙ ap (λ o. report_from (Some c) o d) related

list_read : (d : Data) (ds : Items) → as_array d ≡ Some ds → reports_in d ≡ option_map trees (all_items report_in ds)
list_read null ds is = cc
list_read (boolean b) ds is = cc
list_read (number n) ds is = cc
list_read (string s) ds is = cc
list_read (array es) ds is = let same : es ≡ ds = cc in ap each_in same ∙ each_is ds
list_read (object ms) ds is = cc

-- what a list of descriptions at a key is
pub related_read : (o : Option Data) (d : Data) (ds : Items) → Some d ≡ o → Some ds ≡ as_array d
    → optional_value reports_in o ≡ option_map Some (option_map trees (all_items report_in ds))
related_read o d ds is list = ap (optional_value reports_in) (sym is) ∙ ap (option_map Some) (list_read d ds (sym list))
