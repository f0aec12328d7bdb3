-- Messages that the server writes: responses, errors and notifications of JSON-RPC 2.0.
use Rattle.std.specs.Prelude.{ℕ, ℤ, negsuc, List, true, codes}
use Rattle.serde_json.specs.Data.{Data, Members, array, boolean, item, member, no_items, no_members, number, object}
use Rattle.serde_json.specs.Data.{string, unsigned}
use Rattle.serde_json.specs.Find.{of_integer}
use Rattle.miette_language_server.specs.declared.messages.Refusal.{Refusal}
use Rattle.miette_language_server.specs.declared.messages.Refusal.TheVariants.{NotJson, NotInitialized, NotNow, Unknown}

abbrev pub version_member : Members → Members
version_member rest = member (codes "jsonrpc") (string (codes "2.0")) rest

-- the response to the request with this id
abbrev pub success_response : Data → Data → Data
success_response id result = object (member (codes "id") id (version_member (member (codes "result") result
    no_members)))

abbrev pub code_of : Refusal → ℤ
code_of NotJson = negsuc 32699
code_of NotInitialized = negsuc 32001
code_of NotNow = negsuc 32599
code_of Unknown = negsuc 32600

abbrev pub reason_of : Refusal → List ℕ
reason_of NotJson = codes "the message is no JSON"
reason_of NotInitialized = codes "the server is not initialized"
reason_of NotNow = codes "this request is not one for now"
reason_of Unknown = codes "the server knows no such request"

abbrev pub error_value : Refusal → Data
error_value why = object (member (codes "code") (number (of_integer (code_of why)))
    (member (codes "message") (string (reason_of why)) no_members))

-- the error response to the request with this id
abbrev pub error_response : Data → Refusal → Data
error_response id why = object (member (codes "error") (error_value why)
    (member (codes "id") id (version_member no_members)))

-- the notification that publishes diagnostics
abbrev pub diagnostics_notification : Data → Data
diagnostics_notification params = object (version_member (member (codes "method")
    (string (codes "textDocument/publishDiagnostics"))
    (member (codes "params") params no_members)))

-- ---- what a server can do

-- the client sends documents when they are opened, closed and saved, and their whole text when they change
abbrev pub sync_value : Data
sync_value = object (member (codes "change") (number (unsigned 1)) (member (codes "openClose") (boolean true)
    (member (codes "save") (boolean true) no_members)))

abbrev pub actions_kinds : Data
actions_kinds = object (member (codes "codeActionKinds") (array (item (string (codes "quickfix")) no_items)) no_members)

abbrev pub capabilities : Data
capabilities = object (member (codes "codeActionProvider") actions_kinds
    (member (codes "positionEncoding") (string (codes "utf-16"))
    (member (codes "textDocumentSync") sync_value no_members)))

-- the result of `initialize`
abbrev pub initialize_result : Data
initialize_result = object (member (codes "capabilities") capabilities
    (member (codes "serverInfo") (object (member (codes "name") (string (codes "lint")) no_members)) no_members))
