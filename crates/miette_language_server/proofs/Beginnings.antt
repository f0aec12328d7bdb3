-- What a writer took of a text.
use Rattle.std.proofs.Common.{List, [], ◌++◌, ℕ, Option, Some, None, Result, Ok, Err, OnOk, OnErr, refl, sym, ap}
use Rattle.std.proofs.Common.{◌∙◌, append-nil, append_assoc, drop, take, take-append-drop}
use Rattle.std.specs.Io.KnownBytes.{Appends, WriteAppends}
use Rattle.miette_devices.specs.views.Device.{TakesBeginning}

pub on_ok : {A E : Type 0} (r : Result A E) (P : Type 0) → P → OnOk r P
on_ok (Ok x) P p = p
on_ok (Err e) P p = tt

pub on_err : {A E : Type 0} (r : Result A E) (P : Type 0) → P → OnErr r P
on_err (Ok x) P p = tt
on_err (Err e) P p = p

pub takes_none : (w : Option (List ℕ)) (bs : List ℕ) → TakesBeginning w w bs
takes_none None bs = tt
takes_none (Some xs) bs = ([], bs, refl, sym (append-nil xs))

pub takes_all : (w v : Option (List ℕ)) (bs : List ℕ) → Appends w v bs → TakesBeginning w v bs
takes_all None v bs p = tt
takes_all (Some xs) None bs p = absurd p
takes_all (Some xs) (Some ys) bs p = (bs, [], sym (append-nil bs), p)

-- what one call took, and where it failed
pub takes_written : {E : Type 0} (w v : Option (List ℕ)) (r : Result ℕ E) (bs : List ℕ) → WriteAppends w v r bs
    → TakesBeginning w v bs
takes_written None v r bs h = tt
takes_written (Some xs) None (Ok n) bs h = absurd h
takes_written (Some xs) None (Err e) bs h = absurd h
takes_written (Some xs) (Some ys) (Ok n) bs h = (take n bs, drop n bs, sym (take-append-drop n bs), h)
takes_written (Some xs) (Some ys) (Err e) bs h = ([], bs, refl, h ∙ sym (append-nil xs))

-- a beginning of the first of two texts
pub takes_part : (w v : Option (List ℕ)) (bs more : List ℕ) → TakesBeginning w v bs → TakesBeginning w v (bs ++ more)
takes_part None v bs more h = tt
takes_part (Some xs) None bs more h = absurd h
takes_part (Some xs) (Some ys) bs more h =
    (h.0, h.1 ++ more, ap (λ l. l ++ more) h.2 ∙ append_assoc h.0 h.1 more, h.3)

-- the first of two texts, and a beginning of the second
pub takes_more : (w u v : Option (List ℕ)) (bs more : List ℕ) → Appends w u bs → TakesBeginning u v more
    → TakesBeginning w v (bs ++ more)
takes_more None u v bs more put h = tt
takes_more (Some xs) None v bs more put h = absurd put
takes_more (Some xs) (Some ys) None bs more put h = absurd h
takes_more (Some xs) (Some ys) (Some zs) bs more put h = (
  bs ++ h.0,
  h.1,
  ap (λ l. bs ++ l) h.2 ∙ sym (append_assoc bs h.0 h.1),
  h.3 ∙ ap (λ l. l ++ h.0) put ∙ append_assoc xs bs h.0,
)
