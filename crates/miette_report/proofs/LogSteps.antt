-- Steps of writing logs.
use Rattle.std.proofs.Common.{◌≡◌, ℕ, List, [], ◌∷◌, map, Option, Some, None}
use Rattle.std.proofs.Common.{Result, Ok, Err, IfOk, IfSome, sym, ◌∙◌, subst, ap}
use Rattle.std.specs.Prelude.{IsUtf8}
use Rattle.miette_description.specs.rules.Description.{tree_of_bytes}
use Rattle.miette_lsp.specs.rules.LogWords.{LogRequest, logged_text}
use Rattle.miette_tree.specs.rules.Reads.{AllAlwaysRead, AlwaysReads}
use Rattle.miette_tree.specs.rules.Tree.{Tree, trees}
use Rattle.miette_report.specs.rules.Logs.{Logs}

pub one_reads : {R : Type 0} (value : R → Tree) (rs : List R) (r : R) → rs ≡ r ∷ [] → AlwaysReads (value r)
    → AllAlwaysRead (trees (map value rs))
one_reads value rs r e h = subst (λ l. AllAlwaysRead (trees (map value l))) (sym e) (h, tt)

pub described : {R S E : Type 0} (value : R → Tree) (bytes_of : S → List ℕ) (rs : List R) (r : R) (asked : LogRequest)
    (bytes : List ℕ) (made : Result S E) → rs ≡ r ∷ [] → IsUtf8 bytes × (tree_of_bytes bytes ≡ Some (value r))
    → IfOk made (λ text. bytes_of text ≡ logged_text asked (trees (map value rs)))
    → IfOk made (λ text. Logs asked bytes (λ log. bytes_of text ≡ log))
described value bytes_of rs r asked bytes (Err e) same h p = tt
described value bytes_of rs r asked bytes (Ok text) same h p =
    (h.0, (value r, h.1, p ∙ ap (λ l. logged_text asked (trees (map value l))) same))

pub log_written : (asked : LogRequest) (all : Option (List ℕ)) (bytes slice text put : List ℕ) (P : List ℕ → Type 0)
    → IfSome all (λ bs. bytes ≡ bs) → slice ≡ bytes → Logs asked slice (λ log. text ≡ log) → put ≡ text → P put
    → IfSome all (λ bs. Logs asked bs P)
log_written asked None bytes slice text put P read same log e p = tt
log_written asked (Some bs) bytes slice text put P read same log e p =
    let here : Logs asked slice P = (log.0, (log.1.0, log.1.1, subst P (e ∙ log.1.2) p)) in
    subst (λ b. Logs asked b P) (same ∙ read) here
