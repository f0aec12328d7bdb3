-- What `strip_prefix` leaves of a text, by the test whether the text starts so.
use Rattle.std.proofs.Common.{◌≡◌, ◌∙◌, Bor, IsCharBoundary, List, MatchOption, None, Option, Some, ap, drop, eqb}
use Rattle.std.proofs.Common.{false, length, subst, sym, true, ℕ}
use Rattle.std.specs.Prelude.{if◌then◌else◌}
use Rattle.std.specs.List.{starts_with}
use Rattle.std.specs.Option.{option_copied}
use Rattle.std.proofs.lemmas.Str.Pattern.{starts_text}
use Rattle.std.specs.Str.Pattern.{FindsTextPrefix, StripsPrefix}

pub stripped : (r : Option (Bor (List ℕ))) (front text : List ℕ)
    → MatchOption r (FindsTextPrefix front text None) (λ x. StripsPrefix (FindsTextPrefix front) text x.now)
    → option_copied r ≡ (if starts_with eqb text front then Some (drop (length front) text) else None)
stripped None front text h =
    ap (λ b. if b then Some (drop (length front) text) else None) (starts_text false front text h)
stripped (Some x) front text h =
    ap Some (h.2 ∙ ap (λ n. drop n text) h.1.0)
    ∙ ap (λ b. if b then Some (drop (length front) text) else None)
    (starts_text true front text (h.0, h.1, subst (λ (n : ℕ). IsCharBoundary text n) (sym h.1.0) h.1.2))
