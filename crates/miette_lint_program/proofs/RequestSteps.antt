-- Steps of reading the words that `lint` is called with.
use Rattle.std.proofs.Common.{◌≡◌, ℕ, ◌^◌, List, [], ◌∷◌, Bool, true, false, ◌&&◌, length, Option, Some, None, inl, inr}
use Rattle.std.proofs.Common.{refl, sym, ap, ap₂, ◌∙◌, arith}
use Rattle.std.specs.Prelude.{bytes_eq, codes, if◌then◌else◌, nat_lt, option_map}
use Rattle.std.specs.Str.{all_ascii_digits}
use Rattle.std.specs.Str.Parse.{digits_value}
use Rattle.std.proofs.lemmas.Bool.{and_from, and_left, and_right, cases_Bool, le-ltb, lt-ltb}
use Rattle.std.proofs.lemmas.Slice.Eq.{bytes_eq-Decides}
use Rattle.std.proofs.lemmas.Str.Parse.{IsNumeralModel, numerals_by_value, tells_all_ascii_digits}
use Rattle.miette_devices.specs.rules.Words.{IsReadAs}
use Rattle.miette_lint_program.specs.declared.lint_request.LintRequest.{LintRequest}
use Rattle.miette_lint_program.specs.rules.Words.{Written, check, checked, lint_request, number_written, sarif, serve}
use Rattle.miette_lint_program.specs.views.Requests.{request_of}

-- ---- numbers

own : IsNumeralModel (λ ds. all_ascii_digits ds ≡ true) (digits_value 10)
own = numerals_by_value (λ ds. all_ascii_digits ds ≡ true) tells_all_ascii_digits

chosen : (b : Bool) (n v : ℕ) → b ≡ true → n ≡ v → Some n ≡ (if b then Some v else None)
chosen true n v h e = ap Some e
chosen false n v h e = let bad : false ≡ true = h in cc

not_chosen : (b : Bool) (v : ℕ) → b ≡ false → None ≡ (if b then Some v else None)
not_chosen true v h = let bad : true ≡ false = h in cc
not_chosen false v h = refl

pub read_as : (word : List ℕ) (r : Option ℕ) → IsReadAs word r → r ≡ number_written word
read_as [] None h = refl
read_as [] (Some n) h = absurd (omega (arith, h.0.0))
read_as (d ∷ ds) (Some n) h =
    let v = digits_value 10 (d ∷ ds) in
    chosen (all_ascii_digits (d ∷ ds) && nat_lt v (2 ^ 64)) n v
    (and_from (all_ascii_digits (d ∷ ds)) (nat_lt v (2 ^ 64)) (own.from (d ∷ ds) h.0.1) (lt-ltb v (2 ^ 64) h.1)) h.2
read_as (d ∷ ds) None h =
    let digits = all_ascii_digits (d ∷ ds) in
    let v = digits_value 10 (d ∷ ds) in
    not_chosen (digits && nat_lt v (2 ^ 64)) v (elim (cases_Bool digits) [
      | inl p ↦ and_right digits (nat_lt v (2 ^ 64)) (le-ltb v (2 ^ 64) (h (omega arith, own.to (d ∷ ds) p)))
      | inr p ↦ and_left digits (nat_lt v (2 ^ 64)) p
    ])

-- to check a source, whose width a word writes
pub width_read : (output : Written) (name width : List ℕ) (r : Option ℕ) → IsReadAs width r
    → option_map (λ n. check (record { output = output; name = name; width = n })) r ≡ checked output name width
width_read output name width r h =
    ap (option_map (λ n. check (record { output = output; name = name; width = n }))) (read_as width r h)

pub width_unread : (output : Written) (name width : List ℕ) (r : Option ℕ) (q : Option LintRequest) → IsReadAs width r
    → r ≡ None → q ≡ None → option_map request_of q ≡ checked output name width
width_unread output name width r q h none is =
    ap (option_map request_of) is
    ∙ ap (option_map (λ n. check (record { output = output; name = name; width = n }))) (sym none)
    ∙ width_read output name width r h

pub width_had : (output : Written) (name width : List ℕ) (r : Option ℕ) (n : ℕ) → IsReadAs width r → r ≡ Some n
    → Some (check (record { output = output; name = name; width = n })) ≡ checked output name width
width_had output name width r n h some =
    ap (option_map (λ n. check (record { output = output; name = name; width = n }))) (sym some)
    ∙ width_read output name width r h

-- ---- words

pub served_words : (words : List (List ℕ)) (first width : List ℕ) (r : Option ℕ) → words ≡ first ∷ width ∷ []
    → first ≡ codes "--lsp" → IsReadAs width r → option_map serve r ≡ lint_request words
served_words words first width r are is h =
    ap (option_map serve) (read_as width r h) ∙ sym (ap lint_request (are ∙ ap (λ f. f ∷ width ∷ []) is))

pub none_served : (words : List (List ℕ)) (first width : List ℕ) (r : Option ℕ) (q : Option LintRequest)
    → words ≡ first ∷ width ∷ [] → first ≡ codes "--lsp" → IsReadAs width r → r ≡ None → q ≡ None
    → option_map request_of q ≡ lint_request words
none_served words first width r q are is h none same =
    ap (option_map request_of) same ∙ ap (option_map serve) (sym none) ∙ served_words words first width r are is h

pub some_served : (words : List (List ℕ)) (first width : List ℕ) (r : Option ℕ) (n : ℕ)
    → words ≡ first ∷ width ∷ [] → first ≡ codes "--lsp" → IsReadAs width r → r ≡ Some n
    → Some (serve n) ≡ lint_request words
some_served words first width r n are is h some =
    ap (option_map serve) (sym some) ∙ served_words words first width r are is h

no_five : (w k t n d : List ℕ) → (w ≡ codes "--sarif" → k ≡ codes "--tool" → ⊥)
    → None ≡ lint_request (w ∷ k ∷ t ∷ n ∷ d ∷ [])
no_five w k t n d other =
    let tool = bytes_eq k (codes "--tool") in
    let neither : (bytes_eq w (codes "--sarif") && tool) ≡ false = elim (cases_Bool (bytes_eq w (codes "--sarif"))) [
      | inl p ↦ and_right (bytes_eq w (codes "--sarif")) tool (elim (cases_Bool tool) [
        | inl q ↦ absurd (other ((bytes_eq-Decides w (codes "--sarif")).0 p)
            ((bytes_eq-Decides k (codes "--tool")).0 q))
        | inr q ↦ q
      ])
      | inr p ↦ and_left (bytes_eq w (codes "--sarif")) tool p
    ] in
    sym (ap (λ b. if b then checked (sarif t) n d else None) neither)

pub no_words : (words : List (List ℕ)) → (length words ≡ 2 → ⊥) → (length words ≡ 3 → ⊥)
    → ((t n d : List ℕ) → words ≡ codes "--sarif" ∷ codes "--tool" ∷ t ∷ n ∷ d ∷ [] → ⊥) → None ≡ lint_request words
no_words [] two three five = refl
no_words (a ∷ []) two three five = refl
no_words (a ∷ b ∷ []) two three five = absurd (two refl)
no_words (a ∷ b ∷ c ∷ []) two three five = absurd (three refl)
no_words (a ∷ b ∷ c ∷ d ∷ []) two three five = refl
no_words (w ∷ k ∷ t ∷ n ∷ d ∷ []) two three five =
    no_five w k t n d (λ is also. five t n d (ap₂ (λ x y. x ∷ y ∷ t ∷ n ∷ d ∷ []) is also))
no_words (a ∷ b ∷ c ∷ d ∷ e ∷ f ∷ rest) two three five = refl
