-- The reports that `wrap_err` and `into_diagnostic` return.
use Rattle.std.specs.Prelude.{◌≡◌, ◌⊎◌, ℕ, List, Option, Some, None, IfSome, Result, Ok, Err, String, string_bytes}
use Rattle.std.specs.declared.alloc.AllocError.{AllocError}
use Rattle.std.specs.declared.alloc.Global.{Global}
use Rattle.miette_protocol.specs.views.Meaning.{Meaning}
use Rattle.miette_protocol.specs.rules.Reading.{Source}
use Rattle.miette_protocol.specs.views.Diagnostic.{message_alone}
use Rattle.miette_protocol.specs.rules.Texts.{render_text}
use Rattle.miette_protocol.specs.declared.error.RenderError.{RenderError}
use Rattle.miette_protocol.specs.declared.error.RenderError.TheVariants as unwritten
use Rattle.miette_tree.specs.rules.Diagnosis.{plain_diagnosis}
use Rattle.miette_tree.specs.rules.Tree.{single_report, wrapped_tree}
use Rattle.miette_tree.specs.views.Kind.{internals_of, kind_of, message, out_of_memory}
use Rattle.miette_tree.specs.views.Report.{tree_of, out_of_memory_alone}
use Rattle.miette_tree.specs.declared.tree.Report.{Report}

module _ {D S : Type 0} (means : D → Meaning) (is : S → Source) where
  -- the report of an allocation failure
  abbrev pub IsOutOfMemory : Report D S → Type 0
  IsOutOfMemory r = (tree_of means is r ≡ single_report (plain_diagnosis out_of_memory_alone))
      × (kind_of r ≡ out_of_memory)

  -- the report of a rendering error: of an allocation failure, or with the error's text as message
  abbrev pub IsRenderFailure : RenderError → Report D S → Type 0
  IsRenderFailure unwritten.Memory r = IsOutOfMemory r
  IsRenderFailure unwritten.Refused r = (tree_of means is r ≡ single_report
      (plain_diagnosis (message_alone (render_text unwritten.Refused))))
      × (kind_of r ≡ message)

  -- the report of a message, in front of another report if there is one
  abbrev pub HasMessageInFront : List ℕ → Option (Report D S) → Report D S → Type 0
  HasMessageInFront text None r = (tree_of means is r ≡ single_report (plain_diagnosis (message_alone text)))
      × (kind_of r ≡ message)
  HasMessageInFront text (Some below) r = (tree_of means is r ≡ wrapped_tree text (tree_of means is below))
      × (internals_of r ≡ record (internals_of below) { cause = None })

  -- the same, or the report of an allocation failure
  abbrev pub IsWrapErrResult : List ℕ → Option (Report D S) → Report D S → Type 0
  IsWrapErrResult text below r = HasMessageInFront text below r ⊎ IsOutOfMemory r

  -- the same for a message that was built by the caller, which may have failed to allocate
  abbrev pub IsLazyWrapErrResult : Result (String Global) AllocError → Option (Report D S) → Report D S → Type 0
  IsLazyWrapErrResult (Ok text) None r = HasMessageInFront (string_bytes text) None r
  IsLazyWrapErrResult (Ok text) (Some below) r = IsWrapErrResult (string_bytes text) (Some below) r
  IsLazyWrapErrResult (Err refused) below r = IsOutOfMemory r

  -- a message and nothing else: the printed text, if its type states it
  abbrev pub Prints : Option (List ℕ) → Report D S → Type 0
  Prints stated r = (text : List ℕ) × IfSome stated (λ printed. text ≡ printed)
      × (tree_of means is r ≡ single_report (plain_diagnosis (message_alone text))) × (kind_of r ≡ message)
