-- Steps of reading what words ask for.
use Rattle.std.proofs.Common.{◌≡◌, ◌<◌, ◌^◌, ℕ, Bool, true, false, ◌&&◌, if◌then◌else◌, List, [], ◌∷◌, length, Option}
use Rattle.std.proofs.Common.{Some, None, Result, Err, map, String, string_bytes, codes, bytes_eq, ◌==◌, refl}
use Rattle.std.proofs.Common.{sym, ap, ◌∙◌, subst, arith}
use Rattle.std.specs.Option.{option_and_then, option_map_or}
use Rattle.std.specs.Str.{all_ascii_digits}
use Rattle.std.specs.Str.Parse.{AllDigits, digits_value}
use Rattle.std.proofs.lemmas.Bool.{eqb-true, lt-ltb, ltb-true, false_from_ne_true}
use Rattle.std.proofs.lemmas.Slice.Eq.{bytes_eq-Decides}
use Rattle.std.proofs.lemmas.Str.Parse.{tells_all_ascii_digits, tells_digits}
use Rattle.miette_program.specs.rules.OptionWords.{JobRequest, read_number, with_answer, with_name, with_number}
use Rattle.miette_program.specs.rules.OptionWords.{with_read, with_value, with_words, with_words_after}
use Rattle.miette_devices.specs.rules.Words.{IsReadAs}
use Rattle.miette_program.specs.steps.ParsedArguments.{AreGiven, IsGiven}
use Rattle.miette_program.specs.declared.arguments.Arguments.{Arguments}
use Rattle.miette_devices.specs.declared.fault.ProgramError.{ProgramError}
use Rattle.miette_devices.specs.declared.fault.ProgramError.TheVariants.{Usage, Memory, Read, Write, Description}
use Rattle.miette_devices.specs.declared.fault.ProgramError.TheVariants.{Refused}
use Rattle.miette.specs.rules.Options.{Options}
use Rattle.miette_style.specs.declared.theme.Terminal.{Terminal}
use Rattle.miette_program.specs.rules.OptionWords.{parsed_arguments, request_of, AreParsed}
use Rattle.miette_program.specs.declared.language.LanguageHighlighter.{LanguageHighlighter}
use Rattle.miette_program.specs.declared.arguments.Choice.{Choice}

-- ---- numbers

to_digits : (ds : List ℕ) → all_ascii_digits ds ≡ true → AllDigits 10 ds
to_digits [] e = tt
to_digits (c ∷ cs) e = let k = tells_all_ascii_digits.parts c cs e in tells_digits.more c cs k.0 (to_digits cs k.1)

from_digits : (ds : List ℕ) → AllDigits 10 ds → all_ascii_digits ds ≡ true
from_digits [] h = refl
from_digits (c ∷ cs) h = let k = tells_digits.parts c cs h in tells_all_ascii_digits.more c cs k.0 (from_digits cs k.1)

three : (a b c : Bool) (n : ℕ) → a ≡ true → b ≡ true → c ≡ true → Some n ≡ (if (a && b) && c then Some n else None)
three true true true n x y z = refl
three false b c n x y z = absurd (cc)
three true false c n x y z = absurd (cc)
three true true false n x y z = absurd (cc)

not_three : (a b c : Bool) (n : ℕ) → (a ≡ true → b ≡ true → c ≡ true → ⊥) → None
    ≡ (if (a && b) && c then Some n else None)
not_three true true true n h = absurd (h refl refl refl)
not_three false b c n h = refl
not_three true false c n h = refl
not_three true true false n h = refl

pub number_read : (word : List ℕ) (r : Option ℕ) → IsReadAs word r → r ≡ read_number word
number_read word (Some n) h =
    ap Some h.2 ∙ three _ _ _ (digits_value 10 word) (lt-ltb 0 (length word) h.0.0) (from_digits word h.0.1)
    (lt-ltb (digits_value 10 word) (2 ^ 64) h.1)
number_read word None h =
    not_three _ _ _ (digits_value 10 word) (λ some all small.
    let low : digits_value 10 word < 2 ^ 64 = ltb-true (digits_value 10 word) (2 ^ 64) small in
    absurd (omega (arith, low, h (ltb-true 0 (length word) some, to_digits word all))))

-- ---- a word with its value

-- a word that is none of those in the table
pub otherwise : (b : Bool) (x y : Option JobRequest) → b ≡ false → y ≡ None → (if b then x else y) ≡ None
otherwise false x y e none = none
otherwise true x y e none = absurd (cc)

pub unless : (b : Bool) (y : Option JobRequest) → y ≡ None → (if b then None else y) ≡ None
unless true y none = refl
unless false y none = none

pub differ : (a b : List ℕ) → (a ≡ b → ⊥) → bytes_eq a b ≡ false
differ a b h = false_from_ne_true (bytes_eq a b) (λ e. h ((bytes_eq-Decides a b).0 e))

abbrev no_number : List ℕ → List ℕ → JobRequest → Option JobRequest
no_number word value r =
    if bytes_eq value (codes "yes") then with_answer word true r
    else (if bytes_eq value (codes "no") then with_answer word false r else with_name word value r)

read : (word value : List ℕ) (o p : Option ℕ) (r : JobRequest) → IsReadAs value o → o ≡ p → with_read word value r
    ≡ option_map_or (λ n. with_number word n r) p (no_number word value r)
read word value o p r is e =
    ap (λ n. option_map_or (λ n. with_number word n r) n (no_number word value r)) (sym (number_read value o is) ∙ e)

pub of_number : (word value : List ℕ) (n : ℕ) (o : Option ℕ) (r : JobRequest) (result : Result Arguments ProgramError) →
    IsReadAs value o → o ≡ Some n → AreGiven (with_number word n r) result → AreGiven (with_read word value r) result
of_number word value n o r result is e =
    subst (λ given. AreGiven given result) (sym (read word value o (Some n) r is e))

skipped : (b c : Bool) (x y z : Option JobRequest) → b ≡ false → c ≡ false → z
    ≡ (if b then x else (if c then y else z))
skipped false false x y z h k = refl
skipped true c x y z h k = absurd (cc)
skipped false true x y z h k = absurd (cc)

pub of_name : (word value : List ℕ) (o : Option ℕ) (r : JobRequest) (result : Result Arguments ProgramError) →
    IsReadAs value o → o ≡ None → (value ≡ codes "yes" → ⊥) → (value ≡ codes "no" → ⊥)
    → AreGiven (with_name word value r) result → AreGiven (with_read word value r) result
of_name word value o r result is e not_yes not_no =
    subst (λ given. AreGiven given result)
    (skipped (bytes_eq value (codes "yes")) (bytes_eq value (codes "no")) (with_answer word true r)
    (with_answer word false r) (with_name word value r) (differ value (codes "yes") not_yes)
    (differ value (codes "no") not_no) ∙ sym (read word value o None r is e))

-- ---- the words that are left

pub valued : {Z : Type 0} (word : List ℕ) (words rest : List (String Z)) (x : String Z) (value : List ℕ)
    → words ≡ x ∷ rest → value ≡ string_bytes x → (r : JobRequest) → with_words_after word (map string_bytes words) r
    ≡ option_and_then (with_words (map string_bytes rest)) (with_value word value r)
valued word words rest x value are is = λ r.
    ap (λ ws. with_words_after word (map string_bytes ws) r) are
    ∙ ap (λ v. option_and_then (with_words (map string_bytes rest)) (with_value word v r)) (sym is)

pub all_done : {Z : Type 0} (rest : List (String Z)) (r : JobRequest) → true ≡ (length rest == 0)
    → with_words (map string_bytes rest) r ≡ Some r
all_done [] r h = refl
all_done (x ∷ xs) r h = absurd (omega (arith, eqb-true (length (x ∷ xs)) 0 (sym h)))

-- ---- faults

-- a fault says the same of what is given, whatever the value would be
pub same_fault : {A B C : Type 0} (f : A → B) (g : C → B) (given : Option B) (fault : ProgramError)
    → IsGiven f given (Err fault) → IsGiven g given (Err fault)
same_fault f g given Usage h = h
same_fault f g given Memory h = h
same_fault f g given Read h = h
same_fault f g given Write h = h
same_fault f g given Description h = h
same_fault f g given Refused h = h

-- words that ask for something are not wrong
pub not-wrong : (words : List (List ℕ)) (c : Choice) (o : Options LanguageHighlighter) (t : Terminal)
    → AreParsed words c o t → parsed_arguments words ≡ None → ⊥
not-wrong words c o t are none = let no : None ≡ Some (request_of c o t) = sym none ∙ are in cc
