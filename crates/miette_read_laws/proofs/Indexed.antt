-- Every URI that is looked for among a log's artifacts is there.
use Rattle.std.proofs.Common.{◌≡◌, ℕ, suc, ◌+◌, ◌<◌, Bool, true, false, not, cond, List, [], ◌∷◌, ◌++◌, map, length, Option}
use Rattle.std.proofs.Common.{Some, None, refl, sym, ap, ◌∙◌, ◌||◌, arith, slice_get, unwrap_or, option_map}
use Rattle.std.specs.List.{AllByRecursion, list_any, position_or_len}
use Rattle.std.specs.Str.{bytes_eq}
use Rattle.std.proofs.lemmas.Bool.{lt-ltb, or_left, or_right}
use Rattle.std.proofs.lemmas.List.Folds.{list_any-append}
use Rattle.std.proofs.lemmas.Option.{slice_get-map}
use Rattle.std.proofs.lemmas.Slice.Eq.{bytes_eq-Decides}
use Rattle.indexmap.specs.IndexSet.{insert_all, insert_key}
use Rattle.miette_lines.proofs.Cases.{by_cases}
use Rattle.miette_sarif.specs.rules.Artifacts.{Artifacts, artifact, artifacts_in, index_of, untitled_in, uri_of}
use Rattle.miette_sarif.specs.rules.Findings.{SourceName}
use Rattle.miette_read_laws.specs.laws.Indexed.{IsIndexed}

-- ---- what is inserted is there

abbrev IsIn : List (List ℕ) → List ℕ → Type 0
IsIn keys key = list_any (bytes_eq key) keys ≡ true

stays : (keys more : List (List ℕ)) (key : List ℕ) → IsIn keys key → IsIn (keys ++ more) key
stays keys more key h =
    list_any-append (bytes_eq key) keys more
    ∙ or_left (list_any (bytes_eq key) keys) (list_any (bytes_eq key) more) h

kept_by : (keys : List (List ℕ)) (other key : List ℕ) → IsIn keys key → IsIn (insert_key bytes_eq keys other) key
kept_by keys other key h =
    by_cases {C = IsIn (insert_key bytes_eq keys other) key} (list_any (bytes_eq other) keys)
    (λ y. rw y h) (λ n. rw n (stays keys (other ∷ []) key h))

same_bytes : (key : List ℕ) → bytes_eq key key ≡ true
same_bytes key = (bytes_eq-Decides key key).1 refl

put_in : (keys : List (List ℕ)) (key : List ℕ) → IsIn (insert_key bytes_eq keys key) key
put_in keys key =
    by_cases {C = IsIn (insert_key bytes_eq keys key) key} (list_any (bytes_eq key) keys)
    (λ y. rw y y)
    (λ n. rw n (list_any-append (bytes_eq key) keys (key ∷ [])
    ∙ or_right (list_any (bytes_eq key) keys) (list_any (bytes_eq key) (key ∷ []))
    (or_left (bytes_eq key key) false (same_bytes key))))

all_kept : (keys more : List (List ℕ)) (key : List ℕ) → IsIn keys key → IsIn (insert_all bytes_eq keys more) key
all_kept keys [] key h = h
all_kept keys (other ∷ more) key h = all_kept (insert_key bytes_eq keys other) more key (kept_by keys other key h)

all_put : (keys more : List (List ℕ)) → AllByRecursion (IsIn (insert_all bytes_eq keys more)) more
all_put keys [] = tt
all_put keys (key ∷ more) = (
  all_kept (insert_key bytes_eq keys key) more key (put_in keys key),
  all_put (insert_key bytes_eq keys key) more,
)

-- ---- and found

found_at : (keys : List (List ℕ)) (key : List ℕ) → IsIn keys key
    → (position_or_len (bytes_eq key) keys < length keys)
    × (slice_get keys (position_or_len (bytes_eq key) keys) ≡ Some key)
found_at [] key h = absurd (cc)
found_at (first ∷ keys) key h =
    let at : ℕ = position_or_len (bytes_eq key) keys in
    by_cases {C = (position_or_len (bytes_eq key) (first ∷ keys) < length (first ∷ keys))
    × (slice_get (first ∷ keys) (position_or_len (bytes_eq key) (first ∷ keys)) ≡ Some key)} (bytes_eq key first)
    (λ y. rw y (omega arith, ap (λ k. Some k) (sym ((bytes_eq-Decides key first).0 y))))
    (λ n. let below = found_at keys key (sym (ap (λ b. b || list_any (bytes_eq key) keys) n) ∙ h) in
    let next : 1 + at ≡ suc at = omega arith in
    rw n (omega (arith, below.0), ap (slice_get (first ∷ keys)) next ∙ below.1))

index_there : (keys : List (List ℕ)) (key : List ℕ) → IsIn keys key
    → slice_get keys (index_of (bytes_eq key) keys) ≡ Some key
index_there keys key h =
    let found = found_at keys key h in
    let at : ℕ = position_or_len (bytes_eq key) keys in
    ap (λ (b : Bool). slice_get keys (unwrap_or (cond b (Some at) None) 0)) (lt-ltb at (length keys) found.0) ∙ found.1

one_indexed : (a : Artifacts) (s : SourceName) → IsIn a.uris (uri_of a.untitled s) → IsIndexed a s
one_indexed a s h =
    let uri : List ℕ = uri_of a.untitled s in
    record {
      index = index_of (bytes_eq uri) a.uris;
      location = refl;
      listed = slice_get-map artifact a.uris (index_of (bytes_eq uri) a.uris)
          ∙ ap (λ (o : Option (List ℕ)). option_map artifact o) (index_there a.uris uri h);
    }

each_indexed : (a : Artifacts) (names : List SourceName) → AllByRecursion (IsIn a.uris) (map (uri_of a.untitled) names)
    → AllByRecursion (IsIndexed a) names
each_indexed a [] h = tt
each_indexed a (s ∷ names) h = (one_indexed a s h.0, each_indexed a names h.1)

pub all_indexed : (names : List SourceName) → AllByRecursion (IsIndexed (artifacts_in names)) names
all_indexed names =
    each_indexed (artifacts_in names) names (all_put [] (map (uri_of (untitled_in names)) names))
