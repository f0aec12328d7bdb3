-- A session with a client, message by message.
use Rattle.std.specs.Prelude.{ℕ, List, [], Option, None, bytes_eq, codes, if◌then◌else◌}
use Rattle.std.specs.Option.{option_map_or}
use Rattle.std.specs.Str.{is_utf8}
use Rattle.serde_json.specs.Data.{Data, null}
use Rattle.serde_json.specs.Read.{read}
use Rattle.miette_language_server.specs.declared.messages.Refusal.TheVariants.{NotJson, NotInitialized, NotNow, Unknown}
use Rattle.miette_language_server.specs.declared.methods.Notification.{Notification}
use Rattle.miette_language_server.specs.declared.methods.Notification.TheVariants.{Changed, Closed, Exit, Ignored}
use Rattle.miette_language_server.specs.declared.methods.Notification.TheVariants.{Opened}
use Rattle.miette_language_server.specs.declared.methods.Notification.TheVariants.{Saved}
use Rattle.miette_language_server.specs.declared.methods.Request.{Request}
use Rattle.miette_language_server.specs.declared.methods.Request.TheVariants.{CodeAction, Initialize, Other, Shutdown}
use Rattle.miette_language_server.specs.declared.session.Phase.{Phase}
use Rattle.miette_language_server.specs.declared.session.Phase.TheVariants.{Waiting, Running, Stopping}
use Rattle.miette_language_server.specs.rules.Actions.{actions_in}
use Rattle.miette_language_server.specs.rules.Diagnostics.{diagnostics_of, publish_params}
use Rattle.miette_language_server.specs.rules.Documents.{OpenDocument, document_changed_in, document_in}
use Rattle.miette_language_server.specs.rules.Documents.{document_opened_in, uri_in}
use Rattle.miette_language_server.specs.rules.Documents.{with_document, without}
use Rattle.miette_language_server.specs.rules.Members.{id_of, region_at, text_at}
use Rattle.miette_language_server.specs.rules.Messages.{success_response, diagnostics_notification, error_response}
use Rattle.miette_language_server.specs.rules.Messages.{initialize_result}
use Rattle.miette_language_server.specs.rules.Values.{list_value}

-- ---- names

abbrev pub request_named : List ℕ → Request
request_named method =
    if bytes_eq method (codes "initialize") then Initialize
    else (if bytes_eq method (codes "shutdown") then Shutdown
    else (if bytes_eq method (codes "textDocument/codeAction") then CodeAction else Other))

abbrev pub notification_named : List ℕ → Notification
notification_named method =
    if bytes_eq method (codes "exit") then Exit
    else (if bytes_eq method (codes "textDocument/didChange") then Changed
    else (if bytes_eq method (codes "textDocument/didClose") then Closed
    else (if bytes_eq method (codes "textDocument/didOpen") then Opened
    else (if bytes_eq method (codes "textDocument/didSave") then Saved else Ignored))))

-- ---- states

-- the phase, the number of columns a line may have, and the open documents
pub record SessionState : Type 0 where
  pub phase : Phase
  pub width : ℕ
  pub documents : List OpenDocument

abbrev pub first_state : ℕ → SessionState
first_state width = record { phase = Waiting; width = width; documents = [] }

-- what the server does for a message: nothing, write a message, or exit with a code
pub data Effect : Type 0 where
  nothing : Effect
  written : Data → Effect
  ended : ℕ → Effect

-- the state after a message, and what the server does
pub record Reaction : Type 0 where
  pub state : SessionState
  pub outcome : Effect

abbrev pub still : SessionState → Effect → Reaction
still s outcome = record { state = s; outcome = outcome }

-- ---- requests

abbrev pub in_phase : Phase → SessionState → SessionState
in_phase phase s = record s { phase = phase }

-- the quick fixes in the range that a request names
abbrev pub actions_value : SessionState → Data → Data
actions_value s d = list_value (actions_in s.width (document_in s.documents d) (region_at (codes "/params/range") d))

-- before `initialize`
abbrev pub request_before_initialize : SessionState → Data → Request → Reaction
request_before_initialize s id Initialize = record {
  state = in_phase Running s;
  outcome
      = written (success_response id initialize_result);
}
request_before_initialize s id CodeAction = still s (written (error_response id NotInitialized))
request_before_initialize s id Shutdown = still s (written (error_response id NotInitialized))
request_before_initialize s id Other = still s (written (error_response id NotInitialized))

-- between `initialize` and `shutdown`
abbrev pub request_while_running : SessionState → Data → Data → Request → Reaction
request_while_running s id d Initialize = still s (written (error_response id NotNow))
request_while_running s id d CodeAction = still s (written (success_response id (actions_value s d)))
request_while_running s id d Shutdown = record {
  state = in_phase Stopping s;
  outcome
      = written (success_response id null);
}
request_while_running s id d Other = still s (written (error_response id Unknown))

abbrev pub asked_in : Phase → SessionState → Data → Data → Request → Reaction
asked_in Waiting s id d request = request_before_initialize s id request
asked_in Running s id d request = request_while_running s id d request
asked_in Stopping s id d request = still s (written (error_response id NotNow))

-- ---- notifications

abbrev pub published : SessionState → OpenDocument → Effect
published s document = written (diagnostics_notification (diagnostics_of s.width document))

-- a document is open with this text
abbrev pub held : SessionState → OpenDocument → Reaction
held s document = record {
  state = record s { documents = with_document s.documents document };
  outcome = published s document;
}

-- the document with this URI is closed and has no diagnostics
abbrev pub without_document : SessionState → List ℕ → Reaction
without_document s uri = record {
  state = record s { documents = without s.documents uri };
  outcome = written (diagnostics_notification (publish_params uri None []));
}

abbrev pub notification_while_running : SessionState → Data → Notification → Reaction
notification_while_running s d Opened = option_map_or (held s) (document_opened_in d) (still s nothing)
notification_while_running s d Changed =
    option_map_or (λ document. held s (document_changed_in document d)) (document_in s.documents d) (still s nothing)
notification_while_running s d Saved =
    option_map_or (λ document. still s (published s document)) (document_in s.documents d) (still s nothing)
notification_while_running s d Closed = option_map_or (without_document s) (uri_in d) (still s nothing)
notification_while_running s d Exit = still s (ended 1)
notification_while_running s d Ignored = still s nothing

-- after `shutdown` and before `initialize` only `exit` has an effect
abbrev pub exit_alone : ℕ → Notification → Effect
exit_alone status Opened = nothing
exit_alone status Changed = nothing
exit_alone status Saved = nothing
exit_alone status Closed = nothing
exit_alone status Exit = ended status
exit_alone status Ignored = nothing

abbrev pub noticed_in : Phase → SessionState → Data → Notification → Reaction
noticed_in Waiting s d notification = still s (exit_alone 1 notification)
noticed_in Running s d notification = notification_while_running s d notification
noticed_in Stopping s d notification = still s (exit_alone 0 notification)

-- ---- messages

-- A message with an id is a request, any other is a notification.
abbrev pub called : SessionState → Data → List ℕ → Reaction
called s d method = option_map_or (λ id. asked_in s.phase s id d (request_named method)) (id_of d)
    (noticed_in s.phase s d (notification_named method))

-- a message without a method is a response; the server ignores it
abbrev pub told : SessionState → Data → Reaction
told s d = option_map_or (called s d) (text_at (codes "/method") d) (still s nothing)

-- the message of a body, if it is JSON
abbrev pub message_of : List ℕ → Option Data
message_of body = if is_utf8 body then read body else None

-- the step for the body of a frame
abbrev pub step : SessionState → List ℕ → Reaction
step s body = option_map_or (told s) (message_of body) (still s (written (error_response null NotJson)))
