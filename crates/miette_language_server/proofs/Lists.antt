-- Lists that are empty or not.
use Rattle.std.proofs.Common.{◌≡◌, ℕ, List, [], ◌∷◌, ◌++◌, true, false, eqb, length, map, refl, sym, ap, ◌∙◌}
use Rattle.std.specs.List.{flat_map}
use Rattle.std.specs.Prelude.{Bool, IfOk, Vec, if◌then◌else◌, is_ok}
use Rattle.std.specs.declared.alloc.Global.{Global}
use Rattle.miette_lint.specs.declared.coded.CodedFinding.{CodedFinding}
use Rattle.miette_lint.specs.rules.FindingWithFixes.{FindingWithFixes, coded_findings}
use Rattle.miette_lint.specs.views.Found.{coded_of}
use Rattle.std.proofs.lemmas.Bool.{ne_eqb}
use Rattle.std.proofs.lemmas.List.{drop_more, flat_map_more, map-append, take_all, take_more}
use Rattle.std.proofs.Common.{suc, arith, Result, Ok, Err, OnOk, ◌+◌, ◌<◌, ◌≤◌, drop, get_or, take}
use Rattle.serde_json.specs.Data.{Data}
use Rattle.serde_json.specs.View.{view}
use Rattle.serde_json.specs.declared.value.Value.{Value}
use Rattle.miette_fixes.specs.rules.Edits.{FixModel}
use Rattle.miette_positions.specs.declared.position.Region.{Region}
use Rattle.miette_positions.specs.rules.Regions.{EncodedSource}
use Rattle.miette_language_server.specs.rules.Actions.{actions, actions_at, joint_of, own_actions, with_joint}
use Rattle.miette_language_server.specs.rules.Changes.{changed, apply_changes}
use Rattle.miette_language_server.specs.rules.Diagnostics.{by_fixes, diagnostic_value, utf16_positions}

some : (n : ℕ) → eqb (suc n) 0 ≡ true → true ≡ false
some n h = sym h ∙ ne_eqb (suc n) 0 (λ e. omega (arith, e))

pub no_fixes : (fixes : List FixModel) (plain fixable : Data) → eqb (length fixes) 0 ≡ true
    → plain ≡ by_fixes fixes plain fixable
no_fixes [] plain fixable h = refl
no_fixes (fix ∷ fixes) plain fixable h = let bad : true ≡ false = some (length fixes) h in cc

pub some_fixes : (fixes : List FixModel) (plain fixable : Data) → eqb (length fixes) 0 ≡ false
    → fixable ≡ by_fixes fixes plain fixable
some_fixes [] plain fixable h = let bad : true ≡ false = h in cc
some_fixes (fix ∷ fixes) plain fixable h = refl

pub joint_none : (uri : List ℕ) (source : EncodedSource) (width : ℕ) (values : List Value) → eqb (length values) 0
    ≡ true
    → map view values ≡ with_joint uri source width (map view values)
joint_none uri source width [] h = refl
joint_none uri source width (v ∷ vs) h = let bad : true ≡ false = some (length vs) h in cc

pub joint_some : (uri : List ℕ) (source : EncodedSource) (width : ℕ) (values : List Value) → eqb (length values) 0
    ≡ false
    → map view values ++ joint_of uri source width ∷ [] ≡ with_joint uri source width (map view values)
joint_some uri source width [] h = let bad : true ≡ false = h in cc
joint_some uri source width (v ∷ vs) h = refl

pub appended : {E : Type 0} (r : Result (Unit {0}) E) (new old more : List Value)
    → new ≡ (if is_ok r then old ++ more else old) → OnOk r (map view new ≡ map view old ++ map view more)
appended (Err e) new old more h = tt
appended (Ok u) new old more h = ap (map view) h ∙ map-append view old more

composed : {A B C : Type 0} (f : B → C) (g : A → B) (xs : List A) → map (λ x. f (g x)) xs ≡ map f (map g xs)
composed f g [] = refl
composed f g (x ∷ xs) = ap (λ l. f (g x) ∷ l) (composed f g xs)

-- the values of what is found
pub told_all : {E : Type 0} (uri : List ℕ) (source : EncodedSource) (r : Result (Vec Value Global) E)
    (slice found : List CodedFinding) (all : List FindingWithFixes) → slice ≡ found → map coded_of found ≡ all
    → IfOk r (λ list. map view list.items ≡ map (λ it. diagnostic_value uri source (coded_of it)) slice)
    → IfOk r (λ list. map view list.items ≡ map (diagnostic_value uri source) all)
told_all uri source (Err e) slice found all same is h = tt
told_all uri source (Ok list) slice found all same is h =
    h ∙ composed (diagnostic_value uri source) coded_of slice
    ∙ ap (λ xs. map (diagnostic_value uri source) (map coded_of xs)) same ∙ ap (map (diagnostic_value uri source)) is

-- ---- lists that a loop fills

-- the value of one more item
pub value_more : {A : Type 0} (f : A → Data) (xs : List A) (i : ℕ) (x : A) (values new : List Value) (value : Value)
    → i < length xs → x ≡ get_or xs i x → new ≡ values ++ value ∷ [] → view value ≡ f x
    → map view values ≡ map f (take i xs) → map view new ≡ map f (take (i + 1) xs)
value_more f xs i x values new value l is e h so =
    ap (map view) e
    ∙ map-append view values (value ∷ [])
    ∙ ap (λ d. map view values ++ d ∷ []) (h ∙ ap f is)
    ∙ ap (λ ds. ds ++ f (get_or xs i x) ∷ []) so
    ∙ sym (ap (map f) (take_more xs i x l) ∙ map-append f (take i xs) (get_or xs i x ∷ []))

-- the values of all items
pub values_all : {A : Type 0} (f : A → Data) (xs : List A) (i : ℕ) (values : List Value) → length xs ≤ i
    → map view values ≡ map f (take i xs) → map view values ≡ map f xs
values_all f xs i values h so = so ∙ ap (map f) (take_all i xs h)

-- those of one more item after them
pub joined_more : {A : Type 0} (f : A → List Data) (xs : List A) (i : ℕ) (x : A) (old new more : List Data)
    → i < length xs → x ≡ get_or xs i x → new ≡ old ++ more → more ≡ f x → old ≡ flat_map f (take i xs)
    → new ≡ flat_map f (take (i + 1) xs)
joined_more f xs i x old new more l is e h so =
    e
    ∙ ap (λ ds. old ++ ds) (h ∙ ap f is)
    ∙ ap (λ ds. ds ++ f (get_or xs i x)) so
    ∙ flat_map_more f [] (take i xs) (get_or xs i x)
    ∙ sym (ap (flat_map f) (take_more xs i x l))

pub where_so : (b : Bool) (ds : List Data) → b ≡ true → ds ≡ (if b then ds else [])
where_so true ds h = refl
where_so false ds h = let bad : false ≡ true = h in cc

-- one change further
pub changed_next : (all : List ℕ) (changes : List Value) (i : ℕ) (x : Value) (made new : List ℕ) → i < length changes
    → x ≡ get_or changes i x → new ≡ changed made (view x) → all ≡ apply_changes made (map view (drop i changes))
    → all ≡ apply_changes new (map view (drop (i + 1) changes))
changed_next all changes i x made new l is e h =
    let rest = map view (drop (i + 1) changes) in
    h
    ∙ ap (λ vs. apply_changes made (map view vs)) (drop_more changes i x l)
    ∙ ap (λ v. apply_changes (changed made (view v)) rest) (sym is)
    ∙ ap (λ m. apply_changes m rest) (sym e)

-- ---- the actions at a part

-- of all that is found
pub own_acted : (width : ℕ) (uri u text : List ℕ) (region : Region) (source : EncodedSource)
    (slice found : List CodedFinding)
    (own : List Value) → source ≡ utf16_positions text → map coded_of found ≡ coded_findings text width → slice ≡ found
    → u ≡ uri → map view own ≡ flat_map (actions_at u source region) (map coded_of slice)
    → map view own ≡ own_actions width uri text region
own_acted width uri u text region source slice found own s f same p is =
    let all : map coded_of slice ≡ coded_findings text width = ap (map coded_of) same ∙ f in
    is
    ∙ ap (λ w. flat_map (actions_at w source region) (map coded_of slice)) p
    ∙ ap (flat_map (actions_at uri source region)) all
    ∙ ap (λ at. flat_map (actions_at uri at region) (coded_findings text width)) s

-- where there are none
pub acted_none : (width : ℕ) (uri text : List ℕ) (region : Region) (own : List Value) → eqb (length own) 0 ≡ true
    → map view own ≡ own_actions width uri text region → map view own ≡ actions width uri text region
acted_none width uri text region own none is =
    joint_none uri (utf16_positions text) width own none ∙ ap (with_joint uri (utf16_positions text) width) is

-- one for all findings after them
pub acted_some : {E : Type 0} (width : ℕ) (uri u text : List ℕ) (region : Region) (source : EncodedSource)
    (own : List Value)
    (last : Data) (r : Result (Vec Value Global) E) → source ≡ utf16_positions text → u ≡ uri → eqb (length own) 0
    ≡ false
    → last ≡ joint_of u source width → map view own ≡ own_actions width uri text region
    → IfOk r (λ made. map view made.items ≡ map view own ++ last ∷ [])
    → IfOk r (λ made. map view made.items ≡ actions width uri text region)
acted_some width uri u text region source own last (Err e) s p some joint is h = tt
acted_some width uri u text region source own last (Ok made) s p some joint is h =
    let fix : last ≡ joint_of uri (utf16_positions text) width =
    joint ∙ ap (λ v. joint_of v source width) p ∙ ap (λ at. joint_of uri at width) s in
    h
    ∙ ap (λ d. map view own ++ d ∷ []) fix
    ∙ joint_some uri (utf16_positions text) width own some
    ∙ ap (with_joint uri (utf16_positions text) width) is
