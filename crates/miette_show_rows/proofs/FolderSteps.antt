-- A file that was looked for stays as it was found.
use Rattle.std.proofs.Common.{◌≡◌, ℕ, List, Option, None, Bool, true, false, sym, ap, refl, ◌∙◌, cond, bytes_eq, rules}
use Rattle.std.specs.Prelude.{is_some, option_and_then, option_map}
use Rattle.std.specs.HashMap.{get_by_text}
use Rattle.std.proofs.lemmas.Slice.Eq.{bytes_eq-Decides}
use Rattle.miette_protocol.specs.declared.named_source.NamedSource.{NamedSource}
use Rattle.miette_read.specs.views.Files.{file_source}
use Rattle.miette_show_rows.specs.rules.Looking.{Goes}
use Rattle.miette_show_rows.specs.views.Folder.{FileMap, IsLookedFor, found_in}

abbrev File : Type 0
File = Option (NamedSource (List ℕ))

picked : (b : Bool) (w old : Option File) (E : Type 0) → (b ≡ true → E) → (E → old ≡ None) → is_some old ≡ true
    → cond b w old ≡ old
picked false w old E h k known = refl
picked true w old E h k known = (let none : None ≡ old = sym (k (h refl)) in
    let no : false ≡ true = ap is_some none ∙ known in cc)

pub stays : {S : Type 0} (old new : FileMap S) (key : List ℕ) (made : Option File)
    → ((q : List ℕ) → get_by_text new q ≡ cond (bytes_eq key q) made (get_by_text old q)) → get_by_text old key ≡ None
    → Goes (found_in old) (IsLookedFor old) (found_in new) (IsLookedFor new)
stays old new key made updated none = λ q known.
    let same : get_by_text new q ≡ get_by_text old q =
    updated q ∙ picked (bytes_eq key q) made (get_by_text old q) (key ≡ q) (λ e. (search (rules, bytes_eq-Decides)))
    (λ e. ap (get_by_text old) (sym e) ∙ none) known
    in
    (ap is_some same ∙ known, ap (option_and_then (option_map file_source)) same)
