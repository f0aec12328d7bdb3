-- What `job` is asked for, and the status that it ends with.
use Rattle.std.proofs.Common.{◌≡◌, inl, inr, ℕ, List, Bool, Option, Some, None, Result, Err, IfSome, OnOk, refl, sym}
use Rattle.std.proofs.Common.{ap}
use Rattle.std.proofs.Common.{subst, arith, codes}
use Rattle.std.specs.Option.{option_map, option_map_or}
use Rattle.miette_devices.specs.rules.Faults.{end_status, status_of}
use Rattle.miette_devices.specs.declared.fault.ProgramError.{ProgramError}
use Rattle.miette_devices.specs.declared.fault.ProgramError.TheVariants.{Usage, Memory, Read, Write, Description}
use Rattle.miette_devices.specs.declared.fault.ProgramError.TheVariants.{Refused}
use Rattle.miette_devices.specs.declared.fault.Program.TheVariants.{Job}
use Rattle.miette_lsp.specs.rules.LogWords.{LogRequest, logging_of}
use Rattle.miette_program.specs.declared.arguments.Arguments.{Arguments}
use Rattle.miette_program.specs.declared.language.LanguageHighlighter.{LanguageHighlighter}
use Rattle.miette_program.specs.rules.JobText.{IsTelling}
use Rattle.miette_program.specs.rules.OptionWords.{JobRequest, parsed_arguments}
use Rattle.miette_program.specs.steps.ParsedArguments.{IsGiven, parsed_of}
use Rattle.miette_report.specs.rules.AppliedFixes.{IsFixStatus, fixing_of}
use Rattle.miette_report.specs.rules.Job.{IsNoDescription, IsRefused, Writes}
use Rattle.miette_report.specs.rules.Logs.{IsLogStatus}
use Rattle.miette_report.specs.rules.Requests.{IsProgramStatus, IsStatusFor, Request, report, log, fix, requested_by}
use Rattle.miette_report.specs.views.Requests.{request_in}
use Rattle.miette_report.proofs.JobEnds.{job-status, settings-end, writes-described}

abbrev chosen : Option Bool → Option LogRequest → Option JobRequest → Option Request
chosen f l a =
    option_map_or (λ all. Some (fix all)) f (option_map_or (λ asked. Some (log asked)) l (option_map report a))

-- the words are those of the report, where a report is asked for
wanted : (f : Option Bool) (l : Option LogRequest) (a : Option JobRequest) (asked : JobRequest)
    → chosen f l a ≡ Some (report asked) → a ≡ Some asked
wanted (Some all) l a asked e = absurd (cc)
wanted None (Some it) a asked e = absurd (cc)
wanted None None None asked e = absurd (cc)
wanted None None (Some it) asked e = let same : it ≡ asked = cc in ap Some same

as_asked : (words : List (List ℕ)) (asked : Option Request) (told : Option (List ℕ)) (n : ℕ)
    → requested_by words ≡ asked → IsStatusFor words asked told n → IsProgramStatus words told n
as_asked words asked told n e h = subst (λ it. IsStatusFor words it told n) (sym e) h

pub report-status : (is_blank : LanguageHighlighter → Bool) (words : List (List ℕ)) (it : Arguments)
    (told : Option (List ℕ)) (P : List ℕ → Type 0) (r : Result Unit ProgramError) (n : ℕ)
    → requested_by words ≡ Some (report (parsed_of it))
    → OnOk r (IfSome told (λ bs. Writes is_blank it.choice it.options it.terminal bs P))
    → (r ≡ Err Description → IfSome told IsNoDescription)
    → (r ≡ Err Refused → IsTelling it.choice it.options it.terminal × IfSome told IsRefused)
    → (r ≡ Err Usage → ⊥) → n ≡ end_status (status_of Job) r → IsProgramStatus words told n
report-status is_blank words it told P r n asked ok bad refused called same =
    let are = wanted (fixing_of words) (logging_of (codes "job") words) (parsed_arguments words) (parsed_of it) asked in
    as_asked words (Some (report (parsed_of it))) told n asked
    (job-status (status_of Job) (λ f. refl) ⊥ words told r n
    (settings-end ⊥ words it.choice it.options it.terminal told r are (λ w. w)
    (writes-described is_blank it.choice it.options it.terminal told P r ok) bad refused called) same)

log-failed : (told : Option (List ℕ)) (n : ℕ) → n ≡ 1 → IsLogStatus told n
log-failed told n one = record {
  below = omega (arith, one);
  done = λ zero. absurd (omega (arith, one, zero));
  description = λ three. absurd (omega (arith, one, three));
  called = λ two. omega (arith, one, two);
}

fix-failed : (all : Bool) (told : Option (List ℕ)) (n : ℕ) → n ≡ 1 → IsFixStatus all told n
fix-failed all told n one = record {
  below = omega (arith, one);
  done = λ zero. absurd (omega (arith, one, zero));
  some_left = λ five. absurd (omega (arith, one, five));
  description = λ three. absurd (omega (arith, one, three));
  called = λ two. omega (arith, one, two);
  told_whole = λ four. omega (arith, one, four);
}

-- memory may be refused whatever is asked for
memory-refused : (words : List (List ℕ)) (asked : Option Request) (told : Option (List ℕ)) (n : ℕ) → n ≡ 1
    → IsStatusFor words asked told n
memory-refused words None told n one = inr one
memory-refused words (Some (report asked)) told n one = record {
  below = omega (arith, one);
  done = λ zero. absurd (omega (arith, one, zero));
  description = λ three. absurd (omega (arith, one, three));
  refused = λ four. absurd (omega (arith, one, four));
  telling = λ four. absurd (omega (arith, one, four));
  usage = λ two. omega (arith, one, two);
  ends = λ wrong. inr one;
}
memory-refused words (Some (log asked)) told n one = log-failed told n one
memory-refused words (Some (fix all)) told n one = fix-failed all told n one

pub words-failed : (words : List (List ℕ)) (told : Option (List ℕ)) (fault : ProgramError) (n : ℕ)
    → IsGiven request_in (requested_by words) (Err fault) → n ≡ status_of Job fault → IsProgramStatus words told n
words-failed words told Usage n none two = as_asked words None told n none (inl two)
words-failed words told Memory n none one = memory-refused words (requested_by words) told n one
words-failed words told Read n none same = absurd none
words-failed words told Write n none same = absurd none
words-failed words told Description n none same = absurd none
words-failed words told Refused n none same = absurd none
