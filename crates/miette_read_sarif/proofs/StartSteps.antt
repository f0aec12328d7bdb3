-- Lines that begin one after another.
use Rattle.std.proofs.Common.{◌≡◌, ◌≤◌, ℕ, zero, suc, ◌+◌, List, [], ◌∷◌, ◌++◌, length, drop, Option, Some, None}
use Rattle.std.proofs.Common.{IfSome, Result, Ok, Err, OnOk, string_bytes, append_assoc, arith, refl, subst, sym, ap}
use Rattle.std.proofs.Common.{◌∙◌}
use Rattle.std.specs.Prelude.{option_and_then, slice_get}
use Rattle.std.specs.List.{All}
use Rattle.std.specs.Option.{ForSome}
use Rattle.std.proofs.lemmas.List.Elements.{All-push}
use Rattle.miette_protocol.specs.rules.Reading.{Source}
use Rattle.miette_read_sarif.specs.declared.line_tables.LineTable.{LineTable}
use Rattle.miette_read_sarif.specs.rules.Newlines.{nth_line_start, line_size}
use Rattle.miette_read_sarif.specs.views.Tables.{AreStarts, IsTable}

module _ (newlines : List (List ℕ)) (bytes : List ℕ) where
  abbrev InBytes : List ℕ → Type 0
  InBytes starts = (k : ℕ) → ForSome (slice_get starts k) (λ start. start ≤ length bytes)

  -- ---- a line that ends, and those after it

  first_same : (at size : ℕ) (rest : List ℕ) → Some size ≡ line_size newlines (drop at bytes)
      → AreStarts newlines bytes (at + size) rest → (k : ℕ)
      → slice_get (at ∷ rest) k ≡ nth_line_start newlines bytes at k
  first_same at size rest is more zero = refl
  first_same at size rest is more (suc k) =
      more.same k ∙ ap (option_and_then (λ s. nth_line_start newlines bytes (at + s) k)) is

  first_within : (at : ℕ) (rest : List ℕ) → at ≤ length bytes → InBytes rest → InBytes (at ∷ rest)
  first_within at rest h more zero = λ start is. let same : at ≡ start = cc in omega (arith, h, same)
  first_within at rest h more (suc k) = more k

  before : (at size : ℕ) (rest : List ℕ) → at ≤ length bytes → Some size ≡ line_size newlines (drop at bytes)
      → AreStarts newlines bytes (at + size) rest → AreStarts newlines bytes at (at ∷ rest)
  before at size rest h is more = record {
    same = first_same at size rest is more;
    within = first_within at rest h more.within;
  }

  -- ---- the last line

  last_same : (at : ℕ) → None ≡ line_size newlines (drop at bytes) → (k : ℕ)
      → slice_get (at ∷ []) k ≡ nth_line_start newlines bytes at k
  last_same at is zero = refl
  last_same at is (suc k) = ap (option_and_then (λ s. nth_line_start newlines bytes (at + s) k)) is

  nowhere : InBytes []
  nowhere k = λ start is. absurd (cc)

  last : (at : ℕ) → at ≤ length bytes → None ≡ line_size newlines (drop at bytes)
      → AreStarts newlines bytes at (at ∷ [])
  last at h is = record { same = last_same at is; within = first_within at [] h nowhere }

  -- ---- a walk: with those of the lines that are left, those that are passed are all

  abbrev pub IsWalked : ℕ → List ℕ → Type 0
  IsWalked at starts =
      (rest : List ℕ) → AreStarts newlines bytes at rest → AreStarts newlines bytes 0 (starts ++ rest)

  pub walked_on : (starts more : List ℕ) (at size : ℕ) → more ≡ starts ++ at ∷ [] → at ≤ length bytes
      → Some size ≡ line_size newlines (drop at bytes) → IsWalked at starts → IsWalked (at + size) more
  walked_on starts more at size pushed h is before_it = λ rest tail.
      subst (λ (l : List ℕ). AreStarts newlines bytes 0 l)
      (sym (ap (λ l. l ++ rest) pushed ∙ append_assoc starts (at ∷ []) rest))
      (before_it (at ∷ rest) (before at size rest h is tail))

  pub walked_all : (starts all : List ℕ) (at : ℕ) → all ≡ starts ++ at ∷ [] → at ≤ length bytes
      → None ≡ line_size newlines (drop at bytes) → IsWalked at starts → AreStarts newlines bytes 0 all
  walked_all starts all at pushed h is before_it =
      subst (λ (l : List ℕ). AreStarts newlines bytes 0 l) (sym pushed) (before_it (at ∷ []) (last at h is))

-- ---- tables

pub table_is : (files : List ℕ → Option Source) (newlines : List (List ℕ)) (t : LineTable) (name bytes : List ℕ)
    (file : Source) → Some file ≡ files name → string_bytes t.name ≡ name → bytes ≡ file.bytes
    → AreStarts newlines bytes 0 t.starts.items → IsTable files newlines t
table_is files newlines t name bytes file found named is starts = λ s there.
    let both : Some file ≡ Some s = found ∙ ap files (sym named) ∙ there in
    let same : file ≡ s = cc in
    subst (λ (b : List ℕ). AreStarts newlines b 0 t.starts.items) (is ∙ ap (λ (x : Source). x.bytes) same) starts

pub pushed : {A E X : Type 0} (r : Result A E) (P : X → Type 0) (old new : List X) (x : X)
    → OnOk r (new ≡ old ++ x ∷ []) → P x → OnOk r (All P old → All P new)
pushed (Err e) P old new x h is = tt
pushed (Ok a) P old new x h is = λ all. subst (All P) (sym h) (All-push P old x all is)

-- ---- what a table says of a line

pub read_within : (r o : Option ℕ) (n : ℕ) → r ≡ o → ForSome o (λ start. start ≤ n) → IfSome r (λ start. start ≤ n)
read_within None o n is h = tt
read_within (Some start) o n is h = h start (sym is)
