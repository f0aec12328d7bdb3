-- Texts and members, one after the other.
use Rattle.std.proofs.Common.{◌≡◌, List, [], ◌∷◌, ℕ, ◌++◌, ap, refl, sym, ◌∙◌, append_assoc, map}
use Rattle.std.proofs.Common.{Bool, true, false, length, arith, eqb-true}
use Rattle.std.specs.List.{list_any}
use Rattle.std.specs.Option.{option_map}
use Rattle.std.specs.Prelude.{Option, Some, None, codes, ◌==◌, ◌||◌, is_some}
use Rattle.miette_json.specs.rules.Json.{Json, string}
use Rattle.miette_json.specs.rules.Writing.{JsonPrefix, with_items, with_key, with_value}
use Rattle.miette_sarif.specs.rules.Findings.{Finding, PhysicalLocation, SarifLocation}
use Rattle.miette_sarif.specs.rules.Objects.{array_of, items_of, listed, pair}
use Rattle.miette_sarif.specs.steps.Members.{with_pairs}
use Rattle.miette_lsp.specs.rules.Diagnostics.{code_pairs, href_pairs, maybe_row, diagnostic_message_text, primary_row}
use Rattle.miette_lsp.specs.rules.Diagnostics.{related_at, related_text_at, related_values_of, rows}
use Rattle.miette_lsp.specs.rules.Diagnostics.{see_row}
use Rattle.miette_lsp.specs.steps.Putting.{is_related}

-- ---- messages

-- a text, and then others after it
added_after : (old mid new text more : List ℕ) → mid ≡ old ++ text → new ≡ mid ++ more → new ≡ old ++ (text ++ more)
added_after old mid new text more e f = f ∙ ap (λ l. l ++ more) e ∙ append_assoc old text more

-- the rows of a message, one after the other
pub message_written : (f : Finding) (old own labelled caused helped fixed new : List ℕ) → own ≡ old ++ f.message
    → labelled ≡ own ++ primary_row f.primary → caused ≡ labelled ++ rows (codes "caused by: ") f.causes
    → helped ≡ caused ++ maybe_row (codes "help: ") f.help → fixed ≡ helped ++ rows (codes "fix: ") f.unapplied
    → new ≡ fixed ++ see_row f.code f.url → new ≡ old ++ diagnostic_message_text f
message_written f old own labelled caused helped fixed new a p b c d e =
    let primary : List ℕ = primary_row f.primary in
    let causes : List ℕ = rows (codes "caused by: ") f.causes in
    let help : List ℕ = maybe_row (codes "help: ") f.help in
    let fixes : List ℕ = rows (codes "fix: ") f.unapplied in
    let see : List ℕ = see_row f.code f.url in
    added_after old own new f.message (primary ++ (causes ++ (help ++ (fixes ++ see)))) a
    (added_after own labelled new primary (causes ++ (help ++ (fixes ++ see))) p
    (added_after labelled caused new causes (help ++ (fixes ++ see)) b
    (added_after caused helped new help (fixes ++ see) c (added_after helped fixed new fixes see d e))))

-- ---- codes

-- a code that isn't empty, and what is written of its address
pub code_put : (p one new : JsonPrefix) (code : List ℕ) (url : Option (List ℕ)) (empty : Bool)
    → empty ≡ (length code == 0) → empty ≡ false → one ≡ with_value (string code) (with_key (codes "code") p)
    → new ≡ with_pairs (href_pairs url) one → new ≡ with_pairs (code_pairs code url) p
code_put p one new [] url empty e f begun h = let no : true ≡ false = sym e ∙ f in cc
code_put p one new (c ∷ cs) url empty e f begun h = h ∙ ap (with_pairs (href_pairs url)) begun

-- ---- labels with a source and a text

pub told_nothing : (untitled : List ℕ) (m : SarifLocation) (b : Bool) → b ≡ (length m.text == 0) → b ≡ true
    → related_at untitled m ≡ []
told_nothing untitled m b e f = by m.text e where
  by : (t : List ℕ) → b ≡ (length t == 0)
      → related_at untitled (record { place = m.place; text = t }) ≡ []
  by [] g = refl
  by (x ∷ xs) g = absurd (omega (arith, eqb-true (length (x ∷ xs)) 0 (sym g ∙ f)))

pub told_some : (untitled : List ℕ) (m : SarifLocation) (b : Bool) → b ≡ (length m.text == 0) → b ≡ false
    → related_at untitled m ≡ related_text_at untitled m.place m.text
told_some untitled m b e f = by m.text e where
  by : (t : List ℕ) → b ≡ (length t == 0)
      → related_at untitled (record { place = m.place; text = t }) ≡ related_text_at untitled m.place t
  by [] g = let no : true ≡ false = sym g ∙ f in cc
  by (x ∷ xs) g = refl

pub some_place : {A B : Type 0} (f : A → B) (o : Option A) → is_some o ≡ is_some (option_map f o)
some_place f None = refl
some_place f (Some x) = refl

pub any_of : {A B : Type 0} (f : A → B) (test : B → Bool) (xs : List A)
    → list_any (λ x. test (f x)) xs ≡ list_any test (map f xs)
any_of f test [] = refl
any_of f test (x ∷ xs) = ap (λ b. test (f x) || b) (any_of f test xs)

-- what is told of one label: nothing, unless it has a source and a text
none_of : (untitled : List ℕ) (place : Option PhysicalLocation) (text : List ℕ)
    → is_related (record { place = place; text = text }) ≡ false
    → related_at untitled (record { place = place; text = text }) ≡ []
none_of untitled None [] e = refl
none_of untitled None (x ∷ xs) e = refl
none_of untitled (Some p) [] e = refl
none_of untitled (Some p) (x ∷ xs) e = cc

neither : (p q : Bool) → (p || q) ≡ false → (p ≡ false) × (q ≡ false)
neither true q e = cc
neither false q e = (refl, e)

nothing_of : (untitled : List ℕ) (ms : List SarifLocation) → list_any is_related ms ≡ false
    → related_values_of untitled ms ≡ []
nothing_of untitled [] e = refl
nothing_of untitled (m ∷ ms) e =
    let both = neither (is_related m) (list_any is_related ms) e in
    ap (λ l. l ++ related_values_of untitled ms) (none_of untitled m.place m.text both.0)
    ∙ nothing_of untitled ms both.1

pub no_related : (untitled : List ℕ) (ms : List SarifLocation) → list_any is_related ms ≡ false
    → listed (codes "relatedInformation") (related_values_of untitled ms) ≡ []
no_related untitled ms e = ap (listed (codes "relatedInformation")) (nothing_of untitled ms e)

-- a list with a value
listed_some : (v : Json) (ms vs : List Json) → ms ≡ v ∷ vs
    → listed (codes "relatedInformation") ms ≡ pair (codes "relatedInformation") (array_of ms)
listed_some v ms vs e =
    ap (listed (codes "relatedInformation")) e
    ∙ sym (ap (λ l. pair (codes "relatedInformation") (array_of l)) e)

listed_after : (place : Option PhysicalLocation) (text : List ℕ) (untitled : List ℕ) (rest : List Json) (b : Bool)
    → is_related (record { place = place; text = text }) ≡ b
    → (b ≡ false → listed (codes "relatedInformation") rest ≡ pair (codes "relatedInformation") (array_of rest))
    → listed (codes "relatedInformation") (related_at untitled (record { place = place; text = text }) ++ rest)
    ≡ pair (codes "relatedInformation")
    (array_of (related_at untitled (record { place = place; text = text }) ++ rest))
listed_after None [] untitled rest b e h = h (sym e)
listed_after None (x ∷ xs) untitled rest b e h = h (sym e)
listed_after (Some p) [] untitled rest b e h = h (sym e)
listed_after (Some p) (x ∷ xs) untitled rest b e h = refl

one_of : (p q b : Bool) → (p || q) ≡ true → p ≡ b → b ≡ false → q ≡ true
one_of true q true e f g = cc
one_of true q false e f g = cc
one_of false q b e f g = e

pub some_related : (untitled : List ℕ) (ms : List SarifLocation) → list_any is_related ms ≡ true
    → listed (codes "relatedInformation") (related_values_of untitled ms)
    ≡ pair (codes "relatedInformation") (array_of (related_values_of untitled ms))
some_related untitled [] e = cc
some_related untitled (m ∷ ms) e =
    listed_after m.place m.text untitled (related_values_of untitled ms) (is_related m) refl
    (λ none. some_related untitled ms (one_of (is_related m) (list_any is_related ms) (is_related m) e refl none))

-- items of lists, one after the other
items_joined : (vs ws : List Json) (p : JsonPrefix)
    → with_items (items_of (vs ++ ws)) p ≡ with_items (items_of ws) (with_items (items_of vs) p)
items_joined [] ws p = refl
items_joined (v ∷ vs) ws p = items_joined vs ws (with_value v p)

-- one more label
pub place_there : (untitled : List ℕ) (left rest : List SarifLocation) (m : SarifLocation) (now new all : JsonPrefix)
    → left ≡ m ∷ rest → new ≡ with_items (items_of (related_at untitled m)) now
    → with_items (items_of (related_values_of untitled left)) now ≡ all
    → with_items (items_of (related_values_of untitled rest)) new ≡ all
place_there untitled left rest m now new all next e h =
    ap (with_items (items_of (related_values_of untitled rest))) e
    ∙ sym (items_joined (related_at untitled m) (related_values_of untitled rest) now)
    ∙ sym (ap (λ ms. with_items (items_of (related_values_of untitled ms)) now) next) ∙ h
