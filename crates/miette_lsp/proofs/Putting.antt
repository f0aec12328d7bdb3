-- The code's lists of written values, by the uris in a set.
use Rattle.std.proofs.Common.{◌≡◌, ℕ, ◌<◌, Bool, true, false, cond, List, [], ◌∷◌, ◌++◌, refl, sym, ap, ◌∙◌, arith}
use Rattle.std.proofs.Common.{length, map, subst, get_or, set, Some, String, Global, string_bytes}
use Rattle.std.specs.Prelude.{not, slice_get}
use Rattle.std.specs.Option.{option_map}
use Rattle.std.specs.List.{list_any}
use Rattle.std.specs.Str.{bytes_eq}
use Rattle.std.proofs.lemmas.List.{get_or_default, length-append, length-map}
use Rattle.std.proofs.lemmas.Option.{slice_get-map}
use Rattle.indexmap.specs.IndexSet.{insert_key}
use Rattle.miette_json.specs.rules.Json.{Json}
use Rattle.miette_json.specs.rules.Writing.{JsonPrefix, empty_prefix, with_value}
use Rattle.miette_lsp.specs.steps.Putting.{IsAt}

-- a place in a set of texts
pub inside_texts : (ks : List (String Global)) (at : ℕ) → at < length ks → at < length (map string_bytes ks)
inside_texts ks at lt = subst (λ n. at < n) (sym (length-map ks string_bytes)) lt

pub there_in_texts : (ks : List (String Global)) (at : ℕ) (k : String Global) → slice_get ks at ≡ Some k
    → slice_get (map string_bytes ks) at ≡ Some (string_bytes k)
there_in_texts ks at k e = slice_get-map string_bytes ks at ∙ ap (option_map string_bytes) e

-- a value written to one of several lists
pub written_to : (old : List JsonPrefix) (at : ℕ) (before after : JsonPrefix) (v : Json) → at < length old
    → before ≡ get_or old at before → after ≡ with_value v before
    → set old at after ≡ set old at (with_value v (get_or old at empty_prefix))
written_to old at before after v lt is e =
    ap (set old at) (e ∙ ap (with_value v) (is ∙ get_or_default old at before empty_prefix lt))

fits_by : (b : Bool) (us : List (List ℕ)) (uri : List ℕ) (ls : List JsonPrefix) (at : ℕ) → length ls ≡ length us
    → at < length (cond b us (us ++ uri ∷ [])) → at < length (cond (not b) (ls ++ empty_prefix ∷ []) ls)
fits_by true us uri ls at same lt = subst (λ n. at < n) (sym same) lt
fits_by false us uri ls at same lt =
    omega (arith, lt, same, length-append us (uri ∷ []), length-append {A = JsonPrefix} ls (empty_prefix ∷ []))

-- a place among the uris is one among the lists
fits : (us now : List (List ℕ)) (uri : List ℕ) (old mid : List JsonPrefix) (at : ℕ)
    (is_new : Bool) → length old ≡ length us → is_new ≡ not (list_any (bytes_eq uri) us)
    → now ≡ insert_key bytes_eq us uri → at < length now
    → mid ≡ cond is_new (old ++ empty_prefix ∷ []) old → at < length mid
fits us now uri old mid at is_new same new is lt e =
    subst (λ (l : List JsonPrefix). at < length l)
    (sym (e ∙ ap (λ b. cond b (old ++ empty_prefix ∷ []) old) new))
    (fits_by (list_any (bytes_eq uri) us) us uri old at same (subst (λ l. at < length l) is lt))

either : {A : Type 0} (b : Bool) (x y : A) → cond (not b) x y ≡ cond b y x
either true x y = refl
either false x y = refl

-- the list of a uri
pub is_at : (us now : List (List ℕ)) (uri : List ℕ) (old mid : List JsonPrefix) (at : ℕ) (is_new : Bool)
    → length old ≡ length us → is_new ≡ not (list_any (bytes_eq uri) us) → now ≡ insert_key bytes_eq us uri
    → at < length now
    → (found : List ℕ) × (slice_get now at ≡ Some found) × (bytes_eq uri found ≡ true)
    → mid ≡ cond is_new (old ++ empty_prefix ∷ []) old
    → IsAt uri at (record { uris = us; lists = old }) (record { uris = now; lists = mid })
is_at us now uri old mid at is_new same fresh is inside there begun = record {
  found = there.0;
  is_there = there.1;
  same = there.2;
  within = fits us now uri old mid at is_new same fresh is inside begun;
  uris = is;
  lists = begun ∙ ap (λ b. cond b (old ++ empty_prefix ∷ []) old) fresh
      ∙ either (list_any (bytes_eq uri) us) (old ++ empty_prefix ∷ []) old;
}
