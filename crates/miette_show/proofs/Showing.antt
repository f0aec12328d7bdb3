-- What is shown by handlers that are called one after another, and by files that are looked for.
use Rattle.std.proofs.Common.{◌≡◌, ℕ, List, [], ◌∷◌, Option, Bool, subst}
use Rattle.miette_protocol.specs.rules.Reading.{Source}
use Rattle.miette_tree.specs.rules.Tree.{Tree}
use Rattle.miette_highlight.specs.rules.HighlighterCalls.{Call}
use Rattle.miette_program.proofs.HighlighterSteps.{led-nowhere}
use Rattle.miette_program.proofs.JobHandlerSteps.{given-before}
use Rattle.miette_program.specs.declared.job_handler.JobHandler.{JobHandler}
use Rattle.miette_program.specs.rules.JobText.{IsGiven, IsLed, JobHandlerStays}
use Rattle.miette_show_rows.proofs.Going.{found_before}
use Rattle.miette_show_rows.specs.rules.Looking.{Goes, IsFoundBy}
use Rattle.miette_show.specs.rules.ShownRow.{AreReportTexts, IsRowText, IsShown, ShownRow, Shows, ShowsFirst}
use Rattle.miette_show_rows.specs.declared.verdict.RowKind.{RowKind}
use Rattle.miette_show_rows.specs.declared.verdict.Verdict.{Verdict}
use Rattle.miette_show.specs.declared.words.Format.{Format}
use Rattle.miette_show_rows.specs.declared.verdict.RowKind.TheVariants.{Passed, Unread, Messages, Failed}

drawn_by : (p q : Tree → List ℕ → Type 0) → ((t : Tree) (x : List ℕ) → p t x → q t x) → (ts : List Tree)
    (text : List ℕ) → AreReportTexts p ts text → AreReportTexts q ts text
drawn_by p q h [] text none = none
drawn_by p q h (t ∷ ts) text (drawn, rest, given, others, all) =
    (drawn, rest, h t drawn given, drawn_by p q h ts rest others, all)

row_by : (from : Format) (p q : Tree → List ℕ → Type 0) → ((t : Tree) (x : List ℕ) → p t x → q t x)
    → (files : List ℕ → Option Source) (row : List ℕ) (kind : RowKind) (text : List ℕ)
    → IsRowText from p files row kind text → IsRowText from q files row kind text
row_by from p q h files row Passed text r = r
row_by from p q h files row Unread text r = r
row_by from p q h files row (Messages grave) text (begins, utf8, (ts, is, error, drawn), none) =
    (begins, utf8, (ts, is, error, drawn_by p q h ts text drawn), none)
row_by from p q h files row (Failed what) text (begins, utf8, (ts, is, drawn), failed) =
    (begins, utf8, (ts, is, drawn_by p q h ts text drawn), failed)

pub shown_by : (from : Format) (p q : Tree → List ℕ → Type 0)
    (f g : (List ℕ → Option Source) → List (List ℕ) → Type 0) (s : ShownRow)
    → ((t : Tree) (x : List ℕ) → p t x → q t x)
    → ((files : List ℕ → Option Source) (names : List (List ℕ)) → f files names → g files names)
    → IsShown from p f s → IsShown from q g s
shown_by from p q f g s h k (files, named, text) =
    (files, (λ d utf8 begins is. k files _ (named d utf8 begins is)), row_by from p q h files s.row s.kind s.text text)

pub shows_by : (from : Format) (p q : Tree → List ℕ → Type 0)
    (f : (List ℕ → Option Source) → List (List ℕ) → Type 0) (bytes : List ℕ) (holds : List ℕ → List ℕ → Type 0)
    (verdict : Verdict) → ((t : Tree) (x : List ℕ) → p t x → q t x) → Shows from p f bytes holds verdict
    → Shows from q f bytes holds verdict
shows_by from p q f bytes holds verdict h s =
    (s.0, s.1, (λ i d k. shown_by from p q f f _ h (λ files names x. x) (s.2 i d k)), s.3, s.4)

-- a handler that isn't called
pub led_still : {H : Type 0} (may_follow : H → List Call → Type 0) (h : JobHandler H) → IsLed may_follow h h
led_still may_follow h = led-nowhere may_follow h

-- what is shown after a while is what would be shown at first
pub shown_before : {H F : Type 0} (from : Format) (is_blank : H → Bool) (may_follow : H → List Call → Type 0)
    (h k : JobHandler H) (found : F → List ℕ → Option Source) (knows : F → List ℕ → Type 0) (first second : F)
    (slice row : List ℕ) (kind : RowKind) (text : List ℕ) → JobHandlerStays is_blank h k → IsLed may_follow h k
    → Goes (found first) (knows first) (found second) (knows second) → slice ≡ row
    → IsShown from (IsGiven is_blank may_follow k) (IsFoundBy found knows second)
    (record { row = slice; kind = kind; text = text })
    → IsShown from (IsGiven is_blank may_follow h) (IsFoundBy found knows first)
    (record { row = row; kind = kind; text = text })
shown_before from is_blank may_follow h k found knows first second slice row kind text stays led goes same
    shown =
    subst (λ (r : List ℕ). IsShown from (IsGiven is_blank may_follow h) (IsFoundBy found knows first)
    (record { row = r; kind = kind; text = text })) same
    (shown_by from (IsGiven is_blank may_follow k) (IsGiven is_blank may_follow h) (IsFoundBy found knows second)
    (IsFoundBy found knows first) _
    (λ t x. given-before is_blank may_follow h k t x stays led)
    (λ files names. found_before found knows first second files names goes) shown)

pub first_by : (from : Format) (p q : Tree → List ℕ → Type 0)
    (f : (List ℕ → Option Source) → List (List ℕ) → Type 0) (bytes : List ℕ) (holds : List ℕ → List ℕ → Type 0)
    → ((t : Tree) (x : List ℕ) → p t x → q t x) → ShowsFirst from p f bytes holds → ShowsFirst from q f bytes holds
first_by from p q f bytes holds h s =
    (s.0, s.1, s.2, (λ i d k. shown_by from p q f f _ h (λ files names x. x) (s.3 i d k)), s.4)
