-- Fixes that are put after those that are held.
use Rattle.std.proofs.Common.{◌≡◌, ℕ, List, [], ◌∷◌, ◌++◌, Some, None, Bool, true, false, refl, sym, ap, ap₂}
use Rattle.std.proofs.Common.{◌∙◌, subst, map, cond, bytes_eq, append_assoc, append-nil}
use Rattle.std.specs.Prelude.{◌||◌, is_some, if◌then◌else◌, Vec, string_bytes}
use Rattle.std.specs.declared.alloc.Global.{Global}
use Rattle.std.specs.List.{fold}
use Rattle.std.specs.HashMap.{get_by_text}
use Rattle.std.proofs.lemmas.Slice.Eq.{bytes_eq-Decides}
use Rattle.std.proofs.lemmas.List.{map-append}
use Rattle.std.proofs.lemmas.List.Concat.{flat_map-append}
use Rattle.std.proofs.lemmas.List.Folds.{list_any-append}
use Rattle.miette_fixes.specs.rules.Edits.{FixModel}
use Rattle.miette_show_rows.specs.rules.FixesByFile.{each_once, fixes_for, fixes_if, has_name, fixed_file_names}
use Rattle.miette_show_rows.specs.rules.FixesByFile.{with_name}
use Rattle.miette_show_rows.specs.rules.ApplicableFixes.{FileFixes}
use Rattle.miette_show_rows.specs.views.Holding.{AddsFixes, FixMap, Holds, HoldsAll, Puts, fixes_at, fixes_some}
use Rattle.miette_show_rows.specs.declared.fixes_by_file.FixesByFile.{FixesByFile}

-- ---- one after another

pub adds_none : (it : FixesByFile) → AddsFixes it it []
adds_none it all held = subst (HoldsAll it) (sym (append-nil all)) held

pub adds_then : (a b c : FixesByFile) (m n : List FileFixes) → AddsFixes a b m → AddsFixes b c n
    → AddsFixes a c (m ++ n)
adds_then a b c m n first second all held =
    subst (HoldsAll c) (append_assoc all m n) (second (all ++ m) (first all held))

-- ---- one more

abbrev name_of : FileFixes → List ℕ
name_of it = it.name

fold_more : {A X : Type 0} (f : A → X → A) (z : A) (xs : List X) (x : X) → fold f z (xs ++ x ∷ []) ≡ f (fold f z xs) x
fold_more f z [] x = refl
fold_more f z (y ∷ ys) x = fold_more f (f z y) ys x

pub or_true : (b : Bool) → (b || true) ≡ true
or_true true = refl
or_true false = refl

pub or_false : (b : Bool) → (b || false) ≡ b
or_false true = refl
or_false false = refl

pub has_more : (name : List ℕ) (names : List (List ℕ)) (other : List ℕ) (b : Bool) → bytes_eq other name ≡ b
    → has_name name (names ++ other ∷ []) ≡ (has_name name names || b)
has_more name names other b e =
    list_any-append (λ n. bytes_eq n name) names (other ∷ [])
    ∙ ap (λ c. has_name name names || c) (or_false (bytes_eq other name) ∙ e)

module _ {S : Type 0} (names more : List (List ℕ)) (old new : FixMap S) (all : List FileFixes) (it : FileFixes)
    (made : Vec FixModel Global) (held : Holds names old all) (puts : Puts old new it.name made)
    (is : made.items ≡ fixes_at old it.name ++ it.fixes) where
  each_by : (name : List ℕ) (b : Bool) → bytes_eq it.name name ≡ b
      → fixes_some (cond b (Some made) (get_by_text old name))
      ≡ fixes_for name all ++ ((if b then it.fixes else []) ++ [])
  each_by name true e =
      is ∙ ap (λ n. fixes_at old n ++ it.fixes) ((bytes_eq-Decides it.name name).0 e)
      ∙ ap₂ (λ a b. a ++ b) (held.each name) (sym (append-nil it.fixes))
  each_by name false e = held.each name ∙ sym (append-nil (fixes_for name all))

  there_by : (name : List ℕ) (b c : Bool) → bytes_eq it.name name ≡ b → has_name it.name (fixed_file_names all) ≡ c
      → is_some (cond b (Some made) (get_by_text old name))
      ≡ has_name name (if c then fixed_file_names all else fixed_file_names all ++ it.name ∷ [])
  there_by name true true e f =
      sym (ap (λ n. has_name n (fixed_file_names all)) (sym ((bytes_eq-Decides it.name name).0 e)) ∙ f)
  there_by name true false e f =
      sym (has_more name (fixed_file_names all) it.name true e ∙ or_true (has_name name (fixed_file_names all)))
  there_by name false true e f = held.there name
  there_by name false false e f =
      held.there name
      ∙ sym (has_more name (fixed_file_names all) it.name false e ∙ or_false (has_name name (fixed_file_names all)))

  pub holds_more : more ≡ with_name names it.name → Holds more new (all ++ it ∷ [])
  holds_more with_it =
      let folded = ap each_once (map-append name_of all (it ∷ [])) ∙ fold_more with_name [] (map name_of all) it.name in
      record {
        named = with_it ∙ ap (λ ns. with_name ns it.name) held.named ∙ sym folded;
        each = λ name. ap fixes_some (puts name) ∙ each_by name (bytes_eq it.name name) refl
            ∙ sym (flat_map-append (fixes_if name) all (it ∷ []));
        there = λ name. ap is_some (puts name)
            ∙ there_by name (bytes_eq it.name name) (has_name it.name (fixed_file_names all)) refl refl
            ∙ sym (ap (has_name name) folded);
      }

pub known_name : {S : Type 0} (names : List (List ℕ)) (held : FixMap S) (all : List FileFixes) (it : FileFixes)
    (b : Bool) → Holds names held all → is_some (get_by_text held it.name) ≡ b → has_name it.name names ≡ b
known_name names held all it b h e = ap (has_name it.name) h.named ∙ sym (h.there it.name) ∙ e

pub name_kept : (names : List (List ℕ)) (name : List ℕ) → has_name name names ≡ true → names ≡ with_name names name
name_kept names name e = sym (pick (has_name name names) e)
  where
    pick : (b : Bool) → b ≡ true → (if b then names else names ++ name ∷ []) ≡ names
    pick true e = refl
    pick false e = absurd (cc)

pub name_added : (names : List (List ℕ)) (name : List ℕ) → has_name name names ≡ false
    → names ++ name ∷ [] ≡ with_name names name
name_added names name e = sym (skip (has_name name names) e)
  where
    skip : (b : Bool) → b ≡ false → (if b then names else names ++ name ∷ []) ≡ names ++ name ∷ []
    skip false e = refl
    skip true e = absurd (cc)

-- ---- a name's fixes, with more after them

over : {A : Type 0} (b : Bool) (x y z : A) → cond b x (cond b y z) ≡ cond b x z
over true x y z = refl
over false x y z = refl

module _ (old mid new : FixesByFile) (it : FileFixes) (made : Vec FixModel Global)
    (removed : (name : List ℕ) → get_by_text mid.fixes name ≡ cond (bytes_eq it.name name) None
    (get_by_text old.fixes name)) (puts : Puts mid.fixes new.fixes it.name made) where
  puts_all : Puts old.fixes new.fixes it.name made
  puts_all name =
      puts name ∙ ap (cond (bytes_eq it.name name) (Some made)) (removed name)
      ∙ over (bytes_eq it.name name) (Some made) None (get_by_text old.fixes name)

  pub adds_known : (list : Vec FixModel Global) → Some list ≡ get_by_text old.fixes it.name
      → made.items ≡ list.items ++ it.fixes → new.names ≡ old.names → AddsFixes old new (it ∷ [])
  adds_known list there is same all held =
      let names = map string_bytes old.names.items in
      let known = known_name names old.fixes all it true held (ap is_some (sym there)) in
      holds_more names (map string_bytes new.names.items) old.fixes new.fixes all it made held puts_all
      (is ∙ ap (λ o. fixes_some o ++ it.fixes) there)
      (ap (λ l. map string_bytes l.items) same ∙ name_kept names it.name known)

  pub adds_new : None ≡ get_by_text old.fixes it.name → made.items ≡ it.fixes
      → map string_bytes new.names.items ≡ map string_bytes old.names.items ++ it.name ∷ []
      → AddsFixes old new (it ∷ [])
  adds_new none is more all held =
      let names = map string_bytes old.names.items in
      let known = known_name names old.fixes all it false held (ap is_some (sym none)) in
      holds_more names (map string_bytes new.names.items) old.fixes new.fixes all it made held puts_all
      (is ∙ ap (λ o. fixes_some o ++ it.fixes) none) (more ∙ name_added names it.name known)
