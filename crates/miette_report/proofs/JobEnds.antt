-- Why `job` and `bench` end, and with which status.
use Rattle.std.proofs.Common.{◌≡◌, ◌⊎◌, ◌↔◌, IsTrue, true, false, inl, inr, ℕ, ◌<◌, List, length, Option, Some}
use Rattle.std.proofs.Common.{None, IfSome, refl, sym, ap, ◌∙◌, subst, arith, ◌++◌, Bool, Result, Ok, Err, OnOk}
use Rattle.std.proofs.Common.{codes, decimal}
use Rattle.std.proofs.lemmas.Result.{on_ok_weaker}
use Rattle.miette_program.specs.Options.{Options}
use Rattle.miette_style.specs.declared.theme.Terminal.{Terminal}
use Rattle.miette_devices.specs.rules.Faults.{end_status, usual_status}
use Rattle.miette_report.specs.rules.Job.{IsDescription, IsNoDescription, IsRefused, Writes}
use Rattle.miette_program.specs.rules.JobText.{IsTelling}
use Rattle.miette_report.specs.rules.JobCalls.{AreBenchWords, CallMeasures, CallWrites, IsJobEnd, IsJobStatus}
use Rattle.miette_report.specs.rules.JobCalls.{IsNoBenchCall, Measures}
use Rattle.miette_program.specs.rules.OptionWords.{AreParsed}
use Rattle.miette_devices.specs.declared.fault.ProgramError.{ProgramError}
use Rattle.miette_devices.specs.declared.fault.ProgramError.TheVariants.{Usage, Memory, Description, Refused}
use Rattle.miette_program.specs.declared.language.LanguageHighlighter.{LanguageHighlighter}
use Rattle.miette_program.specs.declared.arguments.Choice.{Choice}
use Rattle.miette_devices.proofs.FaultStatuses.{description-status, only-usage, refused-status, usual-below}
use Rattle.miette_devices.proofs.FaultStatuses.{usual-positive, words-status}
use Rattle.miette_program.proofs.OptionWordSteps.{not-wrong}

-- ---- statuses

pub job-status : {T : Type 0} (status : ProgramError → ℕ) → ((f : ProgramError) → status f ≡ usual_status f)
    → (wrong : Type 0)
    (options : List (List ℕ)) (told : Option (List ℕ)) (r : Result T ProgramError) (n : ℕ)
    → IsJobEnd wrong options told r
    → n ≡ end_status status r → IsJobStatus wrong options told n
job-status status usual wrong options told (Ok x) n end same =
    let zero : n ≡ 0 = same in
    record {
      below = omega (arith, zero);
      done = λ done. end.described;
      description = λ three. absurd (omega (arith, zero, three));
      refused = λ four. absurd (omega (arith, zero, four));
      telling = λ four. absurd (omega (arith, zero, four));
      usage = λ two. absurd (omega (arith, zero, two));
      ends = λ w. elim (end.ends w) [
        | inl u ↦ cc
        | inr m ↦ cc
      ];
    }
job-status status usual wrong options told (Err f) n end same =
    let is : n ≡ usual_status f = same ∙ usual f in
    record {
      below = usual-below f n is;
      done = λ zero. absurd (usual-positive f n is zero);
      description = λ three. end.description (description-status (Err f) f n refl is three);
      refused = λ four. end.refused (refused-status (Err f) f n refl is four);
      telling = λ four. end.telling (refused-status (Err f) f n refl is four);
      usage = only-usage wrong (Err f) f n end.usage refl is;
      ends = words-status wrong (Err f) f n end.ends refl is;
    }

-- ---- where the words are read no further

-- a fault of the words is no other
pub early-other : {A T X : Type 0} (r : Result A ProgramError) (s : Result T ProgramError) (f g : ProgramError) → r
    ≡ Err f → s ≡ Err f
    → ((r ≡ Err Usage) ⊎ (r ≡ Err Memory)) → (Usage ≡ g → ⊥) → (Memory ≡ g → ⊥) → s ≡ Err g → X
early-other r s f g is same others not_usage not_memory e =
    elim others [
      | inl u ↦
          (let k : Err f ≡ Err Usage = sym is ∙ u in
          let m : Err f ≡ Err g = sym same ∙ e in
          absurd (not_usage cc))
      | inr u ↦
          (let k : Err f ≡ Err Memory = sym is ∙ u in
          let m : Err f ≡ Err g = sym same ∙ e in
          absurd (not_memory cc))
    ]

pub early-failed : {A T : Type 0} (failed : Bool) (r : Result A ProgramError) (s : Result T ProgramError)
    (f g : ProgramError) → r ≡ Err f
    → s ≡ Err f → ((r ≡ Err Usage) ⊎ (r ≡ Err Memory)) → (Usage ≡ g → ⊥) → (Memory ≡ g → ⊥) → failed ≡ false
    → IsTrue failed ↔ (s ≡ Err g)
early-failed failed r s f g is same others not_usage not_memory sound =
    (λ on. (let no : false ≡ true = sym sound ∙ on in cc), early-other r s f g is same others not_usage not_memory)

pub early-end : {A T : Type 0} (wrong : Type 0) (options : List (List ℕ)) (told : Option (List ℕ))
    (r : Result A ProgramError)
    (s : Result T ProgramError) (f : ProgramError) → r ≡ Err f → s ≡ Err f → (r ≡ Err Usage → wrong)
    → ((r ≡ Err Usage) ⊎ (r ≡ Err Memory)) → IsJobEnd wrong options told s
early-end wrong options told r s f is same usage others = record {
  described = subst (λ x. OnOk x (IfSome told IsDescription)) (sym same) tt;
  description = early-other r s f Description is same others (λ d. cc) (λ d. cc);
  refused = early-other r s f Refused is same others (λ d. cc) (λ d. cc);
  telling = early-other r s f Refused is same others (λ d. cc) (λ d. cc);
  usage = λ e. (let k : Err f ≡ Err Usage = sym same ∙ e in let m : f ≡ Usage = cc in usage (is ∙ ap Err m));
  ends = λ w. elim others [
    | inl u ↦ inl (let k : Err f ≡ Err Usage = sym is ∙ u in let m : f ≡ Usage = cc in same ∙ ap Err m)
    | inr u ↦ inr (let k : Err f ≡ Err Memory = sym is ∙ u in let m : f ≡ Memory = cc in same ∙ ap Err m)
  ];
}

-- ---- `job` by its words

pub asked-writes : (is_blank : LanguageHighlighter → Bool) (words : List (List ℕ)) (c : Choice)
    (o : Options LanguageHighlighter) (t : Terminal) (told : Option (List ℕ)) (P : List ℕ → Type 0)
    → AreParsed words c o t → IfSome told (λ bs. Writes is_blank c o t bs P)
    → IfSome told (λ bs. CallWrites is_blank words bs P)
asked-writes is_blank words c o t None P are h = tt
asked-writes is_blank words c o t (Some bs) P are h = (c, o, t, are, h)

described : (is_blank : LanguageHighlighter → Bool) (c : Choice) (o : Options LanguageHighlighter) (t : Terminal)
    (told : Option (List ℕ)) (P : List ℕ → Type 0) → IfSome told (λ bs. Writes is_blank c o t bs P)
    → IfSome told IsDescription
described is_blank c o t None P h = tt
described is_blank c o t (Some bs) P h = (h.0, (h.1.0, h.1.1))

pub writes-described : {T : Type 0} (is_blank : LanguageHighlighter → Bool) (c : Choice)
    (o : Options LanguageHighlighter) (t : Terminal) (told : Option (List ℕ)) (P : List ℕ → Type 0)
    (r : Result T ProgramError) → OnOk r (IfSome told (λ bs. Writes is_blank c o t bs P))
    → OnOk r (IfSome told IsDescription)
writes-described is_blank c o t told P r = on_ok_weaker r (described is_blank c o t told P)

pub settings-end : {T : Type 0} (wrong : Type 0) (words : List (List ℕ)) (c : Choice) (o : Options LanguageHighlighter)
    (t : Terminal) (told : Option (List ℕ)) (r : Result T ProgramError) → AreParsed words c o t → (wrong → ⊥)
    → OnOk r (IfSome told IsDescription) → (r ≡ Err Description → IfSome told IsNoDescription)
    → (r ≡ Err Refused → IsTelling c o t × IfSome told IsRefused) → (r ≡ Err Usage → ⊥) → IsJobEnd wrong words told r
settings-end wrong words c o t told r are right done bad refused called = record {
  described = done;
  description = bad;
  refused = λ e. (refused e).1;
  telling = λ e. (c, o, t, are, (refused e).0);
  usage = λ e. absurd (called e);
  ends = λ w. absurd (right w);
}

-- ---- `bench` by its words

pub asked-measures : (is_blank : LanguageHighlighter → Bool) (words options : List (List ℕ)) (times : ℕ) (c : Choice)
    (o : Options LanguageHighlighter) (t : Terminal) (told : Option (List ℕ)) (P : List ℕ → Type 0)
    → AreBenchWords words times options → AreParsed options c o t
    → IfSome told (λ bs. Measures times (Writes is_blank c o t bs) P)
    → IfSome told (λ bs. CallMeasures is_blank words bs P)
asked-measures is_blank words options times c o t None P are wanted h = tt
asked-measures is_blank words options times c o t (Some bs) P are wanted h =
    (times, options, are, (h.0, h.1, (λ some. (c, o, t, wanted, h.2 some)), h.3))

pub not-wrong-bench : (words options : List (List ℕ)) (times : ℕ) (c : Choice) (o : Options LanguageHighlighter)
    (t : Terminal) → AreBenchWords words times options → AreParsed options c o t → IsNoBenchCall words → ⊥
not-wrong-bench words options times c o t are wanted none = not-wrong options c o t wanted (none times options are)

-- what was read, where the reader tells its bytes
pub told-of : (told : Option (List ℕ)) (bytes slice : List ℕ) (P : List ℕ → Type 0) → IfSome told (λ b. bytes ≡ b)
    → slice ≡ bytes → P slice → IfSome told P
told-of None bytes slice P read same h = tt
told-of (Some b) bytes slice P read same h = subst P (same ∙ read) h

pub measured : (is_blank : LanguageHighlighter → Bool) (c : Choice) (o : Options LanguageHighlighter) (t : Terminal)
    (told : Option (List ℕ)) (bytes slice text sent : List ℕ) (times n : ℕ) (P : List ℕ → Type 0)
    → IfSome told (λ b. bytes ≡ b) → slice ≡ bytes → (times ≡ 0 → n ≡ 0)
    → (0 < times → Writes is_blank c o t slice (λ given. n ≡ length given)) → text ≡ decimal n ++ codes "\n"
    → sent ≡ text → P sent → IfSome told (λ b. Measures times (Writes is_blank c o t b) P)
measured is_blank c o t told bytes slice text sent times n P read same zero some made sent_is h =
    told-of told bytes slice (λ b. Measures times (Writes is_blank c o t b) P) read same
    (n, zero, some, subst P (sent_is ∙ made) h)
