-- What writers took of texts that follow one another.
use Rattle.std.proofs.Common.{ℕ, List, [], ◌++◌, Option, Some, None, refl, sym, ap, ◌∙◌, append_assoc, append-nil}
use Rattle.std.specs.Io.KnownBytes.{Appends}
use Rattle.miette_devices.specs.views.Device.{TakesBeginning}

pub all_taken : (a b : Option (List ℕ)) (x : List ℕ) → Appends a b x → TakesBeginning a b x
all_taken None b x h = tt
all_taken (Some xs) None x h = absurd h
all_taken (Some xs) (Some ys) x h = (x, [], sym (append-nil x), h)

pub none_taken : (a : Option (List ℕ)) (x : List ℕ) → TakesBeginning a a x
none_taken None x = tt
none_taken (Some xs) x = ([], x, refl, sym (append-nil xs))

pub taken_then : (a b c : Option (List ℕ)) (x y : List ℕ) → Appends a b x → TakesBeginning b c y
    → TakesBeginning a c (x ++ y)
taken_then None b c x y h t = tt
taken_then (Some xs) None c x y h t = absurd h
taken_then (Some xs) (Some ys) None x y h t = absurd t
taken_then (Some xs) (Some ys) (Some zs) x y h (taken, rest, is, e) = (
  x ++ taken,
  rest,
  ap (λ l. x ++ l) is ∙ sym (append_assoc x taken rest),
  e ∙ ap (λ l. l ++ taken) h ∙ append_assoc xs x taken,
)

-- a beginning of the first is one of both
pub taken_in : (a b : Option (List ℕ)) (x y : List ℕ) → TakesBeginning a b x → TakesBeginning a b (x ++ y)
taken_in None b x y t = tt
taken_in (Some xs) None x y t = absurd t
taken_in (Some xs) (Some ys) x y (taken, rest, is, e) =
    (taken, rest ++ y, ap (λ l. l ++ y) is ∙ append_assoc taken rest y, e)
