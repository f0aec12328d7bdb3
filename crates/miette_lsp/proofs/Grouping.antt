-- Findings put into the lists of their sources, one after the other.
use Rattle.std.proofs.Common.{◌≡◌, ℕ, suc, zero, Bool, true, false, cond, ◌||◌, List, [], ◌∷◌, ◌++◌, refl, sym, ap, ap₂}
use Rattle.std.proofs.Common.{◌∙◌, ◌<◌, ◌+◌, append-nil, arith, length, map, get_or, set, take}
use Rattle.std.proofs.Common.{Option, Some, None}
use Rattle.std.specs.Prelude.{codes, slice_get, unwrap_or, ⊤}
use Rattle.std.specs.List.{list_any}
use Rattle.std.specs.Str.{bytes_eq}
use Rattle.std.proofs.lemmas.List.{length-map, map_more}
use Rattle.std.proofs.lemmas.Option.{slice_get_past}
use Rattle.std.proofs.lemmas.Slice.Eq.{bytes_eq-Decides}
use Rattle.indexmap.specs.IndexSet.{insert_key}
use Rattle.miette_json.specs.rules.Json.{Json}
use Rattle.miette_json.specs.rules.Writing.{JsonPrefix, closed, empty_prefix, opened, with_items, with_key, with_value}
use Rattle.miette_json.specs.rules.Json.{string}
use Rattle.miette_json.proofs.WrittenParts.{items_apart}
use Rattle.miette_sarif.specs.rules.Findings.{Finding}
use Rattle.miette_lsp.specs.rules.Diagnostics.{diagnostic}
use Rattle.miette_lsp.specs.rules.Documents.{diagnostics_at, document, documents_in, is_uri, finding_uri, uris_after}
use Rattle.miette_lsp.specs.rules.Documents.{finding_uris, with_uri}
use Rattle.miette_lsp.specs.steps.Putting.{AreLists, AreSomeLists, IsAt, Lists, items_alone, with_document}
use Rattle.miette_lsp.specs.steps.Putting.{with_documents, with_new_list}
use Rattle.miette_sarif.specs.rules.Objects.{items_of}

-- ---- equal texts

same_text : (a b : List ℕ) → bytes_eq a b ≡ true → a ≡ b
same_text a b e = (bytes_eq-Decides a b).0 e

flipped_by : (a b : List ℕ) (t : Bool) → bytes_eq b a ≡ t → bytes_eq a b ≡ false → t ≡ false
flipped_by a b true e f =
    let no : true ≡ false = sym ((bytes_eq-Decides a b).1 (sym (same_text b a e))) ∙ f in
    cc
flipped_by a b false e f = refl

flipped : (a b : List ℕ) → bytes_eq a b ≡ false → bytes_eq b a ≡ false
flipped a b f = flipped_by a b (bytes_eq b a) refl f

-- ---- tests of lists

neither : (p q : Bool) → (p || q) ≡ false → (p ≡ false) × (q ≡ false)
neither true q e = cc
neither false q e = (refl, e)

any_end : {A : Type 0} (p : A → Bool) (xs : List A) (y : A) → list_any p (xs ++ y ∷ []) ≡ (list_any p xs || p y)
any_end p [] y = last (p y) where
  last : (b : Bool) → (b || false) ≡ b
  last true = refl
  last false = refl
any_end p (x ∷ xs) y = ap (λ b. p x || b) (any_end p xs y) ∙ joined (p x) where
  joined : (b : Bool) → (b || (list_any p xs || p y)) ≡ ((b || list_any p xs) || p y)
  joined true = refl
  joined false = refl

any_at : {A : Type 0} (p : A → Bool) (xs : List A) (at : ℕ) (y : A) → list_any p xs ≡ false → slice_get xs at ≡ Some y
    → p y ≡ false
any_at {A = A} p [] at y e g =
    let past : slice_get {X = A} [] at ≡ None = slice_get_past [] at (omega arith) in
    let no : None ≡ Some y = sym past ∙ g in
    cc
any_at p (x ∷ xs) zero y e g =
    sym (ap (λ o. p (unwrap_or o y)) g) ∙ (neither (p x) (list_any p xs) e).0
any_at p (x ∷ xs) (suc at) y e g = any_at p xs at y (neither (p x) (list_any p xs) e).1 g

-- ---- uris that stand once

abbrev Distinct : List (List ℕ) → Type 0
Distinct [] = ⊤
Distinct (x ∷ xs) = (list_any (bytes_eq x) xs ≡ false) × Distinct xs

distinct_end : (xs : List (List ℕ)) (k : List ℕ) → Distinct xs → list_any (bytes_eq k) xs ≡ false
    → Distinct (xs ++ k ∷ [])
distinct_end [] k d e = (refl, tt)
distinct_end (x ∷ xs) k d e =
    let both = neither (bytes_eq k x) (list_any (bytes_eq k) xs) e in
    let new : (list_any (bytes_eq x) xs || bytes_eq x k) ≡ false = ap₂ (λ p q. p || q) d.0 (flipped k x both.0) in
    (any_end (bytes_eq x) xs k ∙ new, distinct_end xs k d.1 both.1)

distinct_by : (xs : List (List ℕ)) (k : List ℕ) (b : Bool) → Distinct xs → list_any (bytes_eq k) xs ≡ b
    → Distinct (cond b xs (xs ++ k ∷ []))
distinct_by xs k true d e = d
distinct_by xs k false d e = distinct_end xs k d e

distinct_with : (o : Option (List ℕ)) (xs : List (List ℕ)) → Distinct xs → Distinct (with_uri o xs)
distinct_with None xs d = d
distinct_with (Some k) xs d = distinct_by xs k (list_any (bytes_eq k) xs) d refl

-- ---- what is put into one of several lists

others : {B : Type 0} (g h : List ℕ → B) (u : List ℕ) (xs : List (List ℕ))
    → ((w : List ℕ) → bytes_eq u w ≡ false → g w ≡ h w) → list_any (bytes_eq u) xs ≡ false → map g xs ≡ map h xs
others g h u [] same e = refl
others g h u (x ∷ xs) same e =
    let both = neither (bytes_eq u x) (list_any (bytes_eq u) xs) e in
    ap₂ (λ y ys. y ∷ ys) (same x both.0) (others g h u xs same both.1)

put_at : {B : Type 0} (g h : List ℕ → B) (uris : List (List ℕ)) (at : ℕ) (u : List ℕ) → Distinct uris
    → slice_get uris at ≡ Some u → ((w : List ℕ) → bytes_eq u w ≡ false → g w ≡ h w)
    → set (map g uris) at (h u) ≡ map h uris
put_at g h [] at u d e same =
    let past : slice_get {X = List ℕ} [] at ≡ None = slice_get_past [] at (omega arith) in
    let no : None ≡ Some u = sym past ∙ e in
    cc
put_at g h (x ∷ xs) zero u d e same =
    let here : x ≡ u = ap (λ o. unwrap_or o u) e in
    let left : list_any (bytes_eq u) xs ≡ false = sym (ap (λ w. list_any (bytes_eq w) xs) here) ∙ d.0 in
    ap₂ (λ y ys. y ∷ ys) (sym (ap h here)) (others g h u xs same left)
put_at g h (x ∷ xs) (suc at) u d e same =
    ap₂ (λ y ys. y ∷ ys) (same x (flipped x u (any_at (bytes_eq x) xs at u d.0 e)))
    (put_at g h xs at u d.1 e same)

got_at : {B : Type 0} (g : List ℕ → B) (d : B) (uris : List (List ℕ)) (at : ℕ) (u : List ℕ)
    → slice_get uris at ≡ Some u → get_or (map g uris) at d ≡ g u
got_at g d [] at u e =
    let past : slice_get {X = List ℕ} [] at ≡ None = slice_get_past [] at (omega arith) in
    let no : None ≡ Some u = sym past ∙ e in
    cc
got_at g d (x ∷ xs) zero u e = ap (λ o. g (unwrap_or o u)) e
got_at g d (x ∷ xs) (suc at) u e = got_at g d xs at u e

map_end : {A B : Type 0} (f : A → B) (xs : List A) (y : A) → map f (xs ++ y ∷ []) ≡ map f xs ++ f y ∷ []
map_end f [] y = refl
map_end f (x ∷ xs) y = ap (λ l. f x ∷ l) (map_end f xs y)

-- one more value after others
alone_end : (vs : List Json) (d : Json) (p : JsonPrefix)
    → with_items (items_of (vs ++ d ∷ [])) p ≡ with_value d (with_items (items_of vs) p)
alone_end [] d p = refl
alone_end (v ∷ vs) d p = alone_end vs d (with_value v p)

module _ (tool untitled : List ℕ) where
  abbrev at_uri : List Finding → List ℕ → List Json
  at_uri fs uri = diagnostics_at tool untitled fs uri

  abbrev alone : List Finding → List ℕ → JsonPrefix
  alone fs uri = items_alone (at_uri fs uri)

  -- what a finding adds to the list of a uri
  abbrev one : Finding → List ℕ → List Json
  one f uri = cond (is_uri uri (finding_uri untitled f)) (diagnostic tool untitled f ∷ []) []

  joined : (d : Json) (b : Bool) (xs ys : List Json) → cond b (d ∷ (xs ++ ys)) (xs ++ ys) ≡ cond b (d ∷ xs) xs ++ ys
  joined d true xs ys = refl
  joined d false xs ys = refl

  at_end : (fs : List Finding) (f : Finding) (uri : List ℕ) → at_uri (fs ++ f ∷ []) uri ≡ at_uri fs uri ++ one f uri
  at_end [] f uri = refl
  at_end (g ∷ fs) f uri =
      let is = is_uri uri (finding_uri untitled g) in
      let d = diagnostic tool untitled g in
      ap (λ l. cond is (d ∷ l) l) (at_end fs f uri) ∙ joined d is (at_uri fs uri) (one f uri)

  uris_end : (before : List (List ℕ)) (fs : List Finding) (f : Finding) → uris_after untitled before (fs ++ f ∷ [])
      ≡ with_uri (finding_uri untitled f) (uris_after untitled before fs)
  uris_end before [] f = refl
  uris_end before (g ∷ fs) f = uris_end (with_uri (finding_uri untitled g) before) fs f

  distinct_after : (before : List (List ℕ)) (fs : List Finding) → Distinct before
      → Distinct (uris_after untitled before fs)
  distinct_after before [] d = d
  distinct_after before (f ∷ fs) d =
      distinct_after (with_uri (finding_uri untitled f) before) fs (distinct_with (finding_uri untitled f) before d)

  -- a uri that isn't there was in no finding
  apart : (uri k : List ℕ) (before : List (List ℕ)) (b : Bool) → list_any (bytes_eq k) before ≡ b
      → list_any (bytes_eq uri) (cond b before (before ++ k ∷ [])) ≡ false
      → (list_any (bytes_eq uri) before ≡ false) × (bytes_eq uri k ≡ false)
  apart uri k before true t e = (e, unlike (bytes_eq uri k) refl) where
    unlike : (c : Bool) → bytes_eq uri k ≡ c → c ≡ false
    unlike true s =
        let no : true ≡ false =
        sym t ∙ sym (ap (λ w. list_any (bytes_eq w) before) (same_text uri k s)) ∙ e in
        cc
    unlike false s = refl
  apart uri k before false t e =
      neither (list_any (bytes_eq uri) before) (bytes_eq uri k) (sym (any_end (bytes_eq uri) before k) ∙ e)

  parted : (uri : List ℕ) (o : Option (List ℕ)) (before : List (List ℕ))
      → list_any (bytes_eq uri) (with_uri o before) ≡ false
      → (list_any (bytes_eq uri) before ≡ false) × (is_uri uri o ≡ false)
  parted uri None before e = (e, refl)
  parted uri (Some k) before e = apart uri k before (list_any (bytes_eq k) before) refl e

  fresh : (uri : List ℕ) (before : List (List ℕ)) (fs : List Finding)
      → list_any (bytes_eq uri) (uris_after untitled before fs) ≡ false
      → (list_any (bytes_eq uri) before ≡ false) × (at_uri fs uri ≡ [])
  fresh uri before [] e = (e, refl)
  fresh uri before (f ∷ fs) e =
      let o = finding_uri untitled f in
      let d = diagnostic tool untitled f in
      let later = fresh uri (with_uri o before) fs e in
      let here = parted uri o before later.0 in
      (here.0, ap (λ b. cond b (d ∷ at_uri fs uri) (at_uri fs uri)) here.1 ∙ later.1)

  opened_by : (fs : List Finding) (k : List ℕ) (uris : List (List ℕ)) (b : Bool) → list_any (bytes_eq k) uris ≡ b
      → (b ≡ false → at_uri fs k ≡ []) → cond b (map (alone fs) uris) (map (alone fs) uris ++ empty_prefix ∷ [])
      ≡ map (alone fs) (cond b uris (uris ++ k ∷ []))
  opened_by fs k uris true e none = refl
  opened_by fs k uris false e none =
      ap (λ l. map (alone fs) uris ++ l ∷ []) (sym (ap items_alone (none refl))) ∙ sym (map_end (alone fs) uris k)

  -- a finding more is written
  pub one_put : (fs : List Finding) (f : Finding) (k : List ℕ) (at : ℕ) (old mid : Lists) (lists : List JsonPrefix)
      → AreLists tool untitled fs old → finding_uri untitled f ≡ Some k → IsAt k at old mid
      → lists ≡ set mid.lists at (with_value (diagnostic tool untitled f) (get_or mid.lists at empty_prefix))
      → AreLists tool untitled (fs ++ f ∷ []) (record { uris = mid.uris; lists = lists })
  one_put fs f k at old mid lists are is it put =
      let uris : List (List ℕ) = finding_uris untitled fs in
      let d = diagnostic tool untitled f in
      let now : List (List ℕ) = insert_key bytes_eq uris k in
      let so : mid.uris ≡ now = it.uris ∙ ap (λ l. insert_key bytes_eq l k) are.uris in
      let base : mid.lists ≡ map (alone fs) now =
      it.lists ∙ ap₂ (λ l ls. with_new_list l k ls) are.uris are.lists
      ∙ opened_by fs k uris (list_any (bytes_eq k) uris) refl (λ e. (fresh k [] fs e).1) in
      let there : slice_get now at ≡ Some it.found = sym (ap (λ l. slice_get l at) so) ∙ it.is_there in
      let same : k ≡ it.found = same_text k it.found it.same in
      let all : (w : List ℕ) → at_uri (fs ++ f ∷ []) w ≡ at_uri fs w ++ cond (is_uri w (Some k)) (d ∷ []) [] =
      λ w. at_end fs f w ∙ ap (λ o. at_uri fs w ++ cond (is_uri w o) (d ∷ []) []) is in
      let mine : alone (fs ++ f ∷ []) it.found ≡ with_value d (alone fs it.found) =
      ap items_alone (all it.found ∙ ap (λ b. at_uri fs it.found ++ cond b (d ∷ []) [])
      ((bytes_eq-Decides it.found k).1 (sym same))) ∙ alone_end (at_uri fs it.found) d empty_prefix in
      let apart_from : (w : List ℕ) → bytes_eq it.found w ≡ false → alone fs w ≡ alone (fs ++ f ∷ []) w =
      λ w e. ap items_alone (sym (all w ∙ ap (λ b. at_uri fs w ++ cond b (d ∷ []) [])
      (flipped k w (ap (λ u. bytes_eq u w) same ∙ e)) ∙ append-nil (at_uri fs w))) in
      let distinct : Distinct now = distinct_with (Some k) uris (distinct_after [] fs tt) in
      record {
        uris = so ∙ ap (λ o. with_uri o uris) (sym is) ∙ sym (uris_end [] fs f);
        lists = put
            ∙ ap (λ ls. set ls at (with_value d (get_or ls at empty_prefix))) base
            ∙ ap (λ l. set (map (alone fs) now) at (with_value d l))
            (got_at (alone fs) empty_prefix now at it.found there)
            ∙ ap (λ l. set (map (alone fs) now) at l) (sym mine)
            ∙ put_at (alone fs) (alone (fs ++ f ∷ [])) now at it.found distinct there apart_from
            ∙ ap (map (alone (fs ++ f ∷ []))) (ap (λ o. with_uri o uris) (sym is) ∙ sym (uris_end [] fs f));
      }

  -- a finding that lies in no source
  pub none_found : (fs : List Finding) (f : Finding) (it : Lists) → AreLists tool untitled fs it
      → finding_uri untitled f ≡ None → AreLists tool untitled (fs ++ f ∷ []) it
  none_found fs f it are is =
      let uris : List (List ℕ) = finding_uris untitled fs in
      let stay : finding_uris untitled (fs ++ f ∷ []) ≡ uris = uris_end [] fs f ∙ ap (λ o. with_uri o uris) is in
      let same : (w : List ℕ) → at_uri (fs ++ f ∷ []) w ≡ at_uri fs w =
      λ w. at_end fs f w ∙ ap (λ o. at_uri fs w ++ cond (is_uri w o) (diagnostic tool untitled f ∷ []) []) is
      ∙ append-nil (at_uri fs w) in
      record {
        uris = are.uris ∙ sym stay;
        lists = are.lists ∙ sym (ap (λ l. map l uris) (λ i w. items_alone (same w i)))
            ∙ ap (map (alone (fs ++ f ∷ []))) (sym stay);
      }

-- a document by its values
document_put : (uri : List ℕ) (vs : List Json) (p : JsonPrefix)
    → with_document uri (items_alone vs) p ≡ with_value (document uri vs) p
unfolding opened
document_put uri vs p =
    ap (λ q. closed 125 (closed 93 q)) (items_apart (items_of vs) (opened 91 (with_key (codes "diagnostics")
    (with_value (string uri) (with_key (codes "uri") (opened 123 p))))) refl)

each_told : (g : List ℕ → List Json) (uris : List (List ℕ)) (p : JsonPrefix)
    → with_documents uris (map (λ u. items_alone (g u)) uris) p
    ≡ with_items (items_of (map (λ uri. document uri (g uri)) uris)) p
each_told g [] p = refl
each_told g (x ∷ xs) p =
    ap (with_documents xs (map (λ u. items_alone (g u)) xs)) (document_put x (g x) p)
    ∙ each_told g xs (with_value (document x (g x)) p)

-- no list is left for a document
pub no_list : (us : List (List ℕ)) (ls : List JsonPrefix) (p all : JsonPrefix) → ls ≡ []
    → with_documents us ls p ≡ all → p ≡ all
no_list [] ls p all e h = h
no_list (u ∷ us) [] p all e h = h
no_list (u ∷ us) (l ∷ ls) p all e h = cc

-- all documents
pub all_told : (tool untitled : List ℕ) (fs : List Finding) (it : Lists) → AreLists tool untitled fs it
    → (p : JsonPrefix) → with_documents it.uris it.lists p ≡ with_items (items_of (documents_in tool untitled fs)) p
all_told tool untitled fs it are p = ap₂ (λ us ls. with_documents us ls p) are.uris are.lists
    ∙ each_told (diagnostics_at tool untitled fs) (finding_uris untitled fs) p

pub some_lists : (tool untitled : List ℕ) (fs : List Finding) (it : Lists) → AreLists tool untitled fs it
    → AreSomeLists tool untitled it
some_lists tool untitled fs it are = record { findings = fs; are = are }

-- one more of several is gone through
pub next_taken : {A B : Type 0} (f : A → B) (xs : List A) (i : ℕ) (d : A) → i < length xs → d ≡ get_or xs i d
    → map f (take i xs) ++ f d ∷ [] ≡ map f (take (i + 1) xs)
next_taken f xs i d lt is = ap (λ x. map f (take i xs) ++ f x ∷ []) is ∙ sym (map_more f xs i d lt)

-- as many lists as uris
pub lists_fit : (tool untitled : List ℕ) (it : Lists) → AreSomeLists tool untitled it
    → length it.lists ≡ length it.uris
lists_fit tool untitled it some =
    ap length some.are.lists ∙ length-map (finding_uris untitled some.findings)
    (λ uri. items_alone (diagnostics_at tool untitled some.findings uri))
    ∙ sym (ap length some.are.uris)
