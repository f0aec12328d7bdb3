-- Labels from their parts.
use Rattle.std.proofs.Common.{◌≡◌, Bool, List, Some, None, ℕ}
use Rattle.miette_protocol.specs.views.Meaning.{Label}

pub label_made : (l : Label) (text : List ℕ) (primary : Bool) → l.text ≡ Some text → l.primary ≡ primary
    → l.context ≡ None → l ≡ record { text = Some text; span = l.span; primary = primary; context = None }
label_made l text primary a b e = λ i. record { text = a i; span = l.span; primary = b i; context = e i }
