-- The report of all parts, by the reports that are made on the way.
use Rattle.std.proofs.Common.{◌≡◌, ℕ, List, [], Option, Some, None, option_map, unwrap_or, refl, sym, ap, ◌∙◌}
use Rattle.miette_protocol.specs.rules.Reading.{Source}
use Rattle.miette_fixes.specs.rules.Edits.{FixModel}
use Rattle.miette_protocol.specs.views.Meaning.{Meaning}
use Rattle.miette_tree.specs.rules.Diagnosis.{Diagnosis, Section, plain_diagnosis}
use Rattle.miette_tree.specs.rules.Tree.{Tree, tree, Cause, diagnostic, texts, Trees, no_trees, single_report, cause_of}
use Rattle.miette_tree.specs.rules.Tree.{with_cause}
use Rattle.miette_description.specs.rules.Description.{one_cause, wrapped_in, tree_of_parts}
use Rattle.miette_description.specs.steps.OptionalParts.{maybe_sourced, maybe_related, maybe_snippets, maybe_fixes}
use Rattle.miette_description.specs.rules.Members.{diagnosis_with}

sourced_alone : (m : Diagnosis) (s : Option Source) → maybe_sourced s (single_report m) ≡ tree m s (texts []) no_trees
sourced_alone m None = refl
sourced_alone m (Some s) = refl

related_after : (m : Diagnosis) (s : Option Source) (c : Cause) (r : Option Trees)
    → maybe_related r (tree m s c no_trees) ≡ tree m s c (unwrap_or r no_trees)
related_after m s c None = refl
related_after m s c (Some r) = refl

by_cause : (m : Diagnosis) (s : Option Source) (o : Option Cause) (r : Option Trees) (contexts : List (List ℕ))
    (t : Tree)
    → option_map (λ c. with_cause c (tree m s (texts []) no_trees)) o ≡ Some t
    → option_map (λ c. wrapped_in contexts (tree m s c (unwrap_or r no_trees))) o
    ≡ Some (wrapped_in contexts (maybe_related r t))
by_cause m s None r contexts t e = cc
by_cause m s (Some c) r contexts t e =
    let same : tree m s c no_trees ≡ t = cc in
    ap (λ x. Some (wrapped_in contexts x)) (sym (related_after m s c r))
    ∙ ap (λ x. Some (wrapped_in contexts (maybe_related r x))) same

pub parts_made : (m : Diagnosis) (s : Option Source) (one : Option Tree) (several : Option (List (List ℕ)))
    (r : Option Trees) (contexts : Option (List (List ℕ)))
    (built sourced caused related made : Tree) → built ≡ single_report m → sourced ≡ maybe_sourced s built
    → option_map (λ c. with_cause c sourced) (one_cause one several) ≡ Some caused → related ≡ maybe_related r caused
    → made ≡ wrapped_in (unwrap_or contexts []) related
    → tree_of_parts m s one several r contexts ≡ Some made
parts_made m s one several r contexts built sourced caused related made b u c p w =
    let first : sourced ≡ tree m s (texts []) no_trees = u ∙ ap (maybe_sourced s) b ∙ sourced_alone m s in
    let given = ap (λ t. option_map (λ x. with_cause x t) (one_cause one several)) (sym first) ∙ c in
    by_cause m s (one_cause one several) r (unwrap_or contexts []) caused given
    ∙ ap Some (sym (w ∙ ap (wrapped_in (unwrap_or contexts [])) p))

pub no_parts : (m : Diagnosis) (s : Option Source) (one : Option Tree) (several : Option (List (List ℕ)))
    (r : Option Trees) (contexts : Option (List (List ℕ)))
    → one_cause one several ≡ None → tree_of_parts m s one several r contexts ≡ None
no_parts m s one several r contexts e = ap (option_map
    (λ c. wrapped_in (unwrap_or contexts []) (tree m s c (unwrap_or r no_trees)))) e

-- the report whose cause is none, texts or a report
pub no_cause : {B V : Type 0} (one : Option B) (several : Option V) (f : B → Tree) (g : V → List (List ℕ)) (t : Tree)
    → one ≡ None → several ≡ None → cause_of t ≡ texts []
    → option_map (λ c. with_cause c t) (one_cause (option_map f one) (option_map g several)) ≡ Some t
no_cause None None f g (tree m s c r) p q e = ap (λ x. Some (tree m s x r)) (sym e)
no_cause None (Some v) f g t p q e = cc
no_cause (Some b) several f g t p q e = cc

pub text_causes : {B V : Type 0} (one : Option B) (several : Option V) (v : V) (f : B → Tree) (g : V → List (List ℕ))
    (t made : Tree) → one ≡ None → several ≡ Some v
    → made ≡ with_cause (texts (g v)) t → option_map (λ c. with_cause c t)
    (one_cause (option_map f one) (option_map g several)) ≡ Some made
text_causes None None v f g t made p q e = cc
text_causes None (Some w) v f g t made p q e =
    let same : w ≡ v = cc in
    ap (λ x. Some (with_cause (texts (g x)) t)) same ∙ ap Some (sym e)
text_causes (Some b) several v f g t made p q e = cc

pub report_cause : {B V : Type 0} (one : Option B) (several : Option V) (b : B) (f : B → Tree) (g : V → List (List ℕ))
    (t made : Tree) → one ≡ Some b → several ≡ None
    → made ≡ with_cause (diagnostic (f b)) t → option_map (λ c. with_cause c t)
    (one_cause (option_map f one) (option_map g several)) ≡ Some made
report_cause None several b f g t made p q e = cc
report_cause (Some a) (Some v) b f g t made p q e = cc
report_cause (Some a) None b f g t made p q e =
    let same : a ≡ b = cc in
    ap (λ x. Some (with_cause (diagnostic (f x)) t)) same ∙ ap Some (sym e)

-- a report that says all of it
pub said_alone : (m : Meaning) (sections : Option (List Section)) (fixes : Option (List FixModel))
    → maybe_fixes fixes (maybe_snippets sections (single_report (plain_diagnosis m)))
    ≡ single_report (diagnosis_with m (unwrap_or sections []) (unwrap_or fixes []))
said_alone m None None = refl
said_alone m None (Some fixes) = refl
said_alone m (Some sections) None = refl
said_alone m (Some sections) (Some fixes) = refl
