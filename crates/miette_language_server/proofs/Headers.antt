-- A header, byte by byte.
use Rattle.std.proofs.Common.{◌≡◌, ◌≢◌, ℕ, List, [], ◌∷◌, ◌++◌, true, false, eqb, Option, Some, None, refl, ap}
use Rattle.std.proofs.Common.{subst}
use Rattle.std.proofs.Common.{◌∙◌, get_or, length, take, ◌≤◌, suc, zero, arith}
use Rattle.std.specs.Option.{option_or}
use Rattle.std.specs.Io.KnownBytes.{Consumes, IsAtEnd}
use Rattle.std.proofs.lemmas.Bool.{eq-eqb, ne_eqb}
use Rattle.miette_language_server.specs.rules.Frames.{ends_header, known_length, length_from, content_length_in}
use Rattle.miette_language_server.specs.views.Answered.{IsHeaderFrom, IsNextByte}

-- ---- one byte

pub at_end : (a b : Option (List ℕ)) → Consumes a b [] → IsAtEnd b → IsAtEnd a
at_end None b c e = tt
at_end (Some xs) None c e = absurd c
at_end (Some xs) (Some ys) c e = c ∙ e

one : (n : ℕ) (buf : List ℕ) → n ≢ 0 → n ≤ length buf → length buf ≡ 1 → take n buf ≡ get_or buf 0 0 ∷ []
one n [] some within is = absurd (omega (arith, is))
one n (b ∷ c ∷ rest) some within is = absurd (omega (arith, is))
one zero (b ∷ []) some within is = absurd (some refl)
one (suc zero) (b ∷ []) some within is = refl
one (suc (suc n)) (b ∷ []) some within is = absurd (omega (arith, within))

pub one_read : (a b : Option (List ℕ)) (n : ℕ) (buf : List ℕ) → n ≢ 0 → n ≤ length buf → length buf ≡ 1
    → Consumes a b (take n buf) → Consumes a b (get_or buf 0 0 ∷ [])
one_read a b n buf some within is c = subst (Consumes a b) (one n buf some within is) c

-- ---- the bytes of a row

header_by : (known more : Option ℕ) (row next xs ys : List ℕ) (new : Option (List ℕ)) (size : Option ℕ)
    → length_from known row xs ≡ length_from more next ys → IsHeaderFrom more next (Some ys) new size
    → IsHeaderFrom known row (Some xs) new size
header_by known more row next xs ys new None e h = e ∙ h
header_by known more row next xs ys None (Some n) e h = h
header_by known more row next xs ys (Some rest) (Some n) e h = e ∙ h

pub within_row : (known : Option ℕ) (row : List ℕ) (b : ℕ) (ys : List ℕ) → eqb b 10 ≡ false
    → length_from known row (b ∷ ys) ≡ length_from known (row ++ b ∷ []) ys
within_row known row b ys h = rw h refl

pub after_row : (known : Option ℕ) (row : List ℕ) (b : ℕ) (ys : List ℕ) → eqb b 10 ≡ true → ends_header row ≡ false
    → length_from known row (b ∷ ys) ≡ length_from (option_or (content_length_in row) known) [] ys
after_row known row b ys h more = rw (h, more) refl

pub after_all : (known : Option ℕ) (row : List ℕ) (b : ℕ) (ys : List ℕ) → eqb b 10 ≡ true → ends_header row ≡ true
    → length_from known row (b ∷ ys) ≡ known_length known ys
after_all known row b ys h none = rw (h, none) refl

-- one more byte of a row
pub more_of_row : (known : Option ℕ) (row : List ℕ) (b : ℕ) (old mid new : Option (List ℕ)) (size : Option ℕ) → b ≢ 10
    → IsNextByte old mid (Some b) → IsHeaderFrom known (row ++ b ∷ []) mid new size
    → IsHeaderFrom known row old new size
more_of_row known row b None mid new size ne n h = tt
more_of_row known row b (Some xs) None new size ne n h = absurd n
more_of_row known row b (Some xs) (Some ys) new size ne n h =
    header_by known known row (row ++ b ∷ []) xs ys new size
    (ap (length_from known row) n ∙ within_row known row b ys (ne_eqb b 10 ne)) h

-- the end of a row
pub more_rows : (known : Option ℕ) (row : List ℕ) (b : ℕ) (old mid new : Option (List ℕ)) (size : Option ℕ) → b ≡ 10
    → ends_header row ≡ false → IsNextByte old mid (Some b)
    → IsHeaderFrom (option_or (content_length_in row) known) [] mid new size → IsHeaderFrom known row old new size
more_rows known row b None mid new size is more n h = tt
more_rows known row b (Some xs) None new size is more n h = absurd n
more_rows known row b (Some xs) (Some ys) new size is more n h =
    header_by known (option_or (content_length_in row) known) row [] xs ys new size
    (ap (length_from known row) n ∙ after_row known row b ys (eq-eqb b 10 is) more) h

known_here : (known : Option ℕ) (row xs ys : List ℕ) → length_from known row xs ≡ known_length known ys
    → IsHeaderFrom known row (Some xs) (Some ys) known
known_here None row xs ys e = e
known_here (Some n) row xs ys e = e

-- the end of the header
pub no_more_rows : (known : Option ℕ) (row : List ℕ) (b : ℕ) (old mid : Option (List ℕ)) → b ≡ 10
    → ends_header row ≡ true → IsNextByte old mid (Some b) → IsHeaderFrom known row old mid known
no_more_rows known row b None mid is none n = tt
no_more_rows known row b (Some xs) None is none n = absurd n
no_more_rows known row b (Some xs) (Some ys) is none n =
    known_here known row xs ys (ap (length_from known row) n ∙ after_all known row b ys (eq-eqb b 10 is) none)

-- the end of all
pub no_header : (known : Option ℕ) (row : List ℕ) (old new : Option (List ℕ)) → IsNextByte old new None
    → IsHeaderFrom known row old new None
no_header known row None new n = tt
no_header known row (Some xs) new n = ap (length_from known row) n
