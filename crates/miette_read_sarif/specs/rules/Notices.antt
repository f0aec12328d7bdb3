-- The notifications of a tool about itself.
use Rattle.std.specs.Prelude.{ℕ, List, [], ◌++◌, Option, None, Bool, codes, filter, option_and_then, unwrap_or}
use Rattle.std.specs.List.{flat_map}
use Rattle.std.specs.Option.{option_or}
use Rattle.serde_json.specs.Data.{Data}
use Rattle.miette_protocol.specs.declared.protocol.Severity.TheVariants.{Error}
use Rattle.miette_read.specs.rules.Members.{member_object, member_objects, member_text}
use Rattle.miette_read.specs.rules.Reports.{MessageParts}
use Rattle.miette_read_sarif.specs.rules.Counting.{says}
use Rattle.miette_read_sarif.specs.rules.Results.{message_in}

abbrev pub is_error_notification : Data → Bool
is_error_notification n = says (codes "level") (codes "error") n

-- The error notifications at a key.
abbrev pub errors_at : List ℕ → Data → List Data
errors_at key invocation = filter is_error_notification (member_objects key invocation)

-- Errors of the tool's execution, then of its configuration.
abbrev pub notices_in : Data → List Data
notices_in invocation =
    errors_at (codes "toolExecutionNotifications") invocation
    ++ errors_at (codes "toolConfigurationNotifications") invocation

abbrev pub tool_notifications : Data → List Data
tool_notifications run = flat_map notices_in (member_objects (codes "invocations") run)

-- The id of the object at a key.
abbrev pub id_at : List ℕ → Data → Option (List ℕ)
id_at key n = option_and_then (member_text (codes "id")) (member_object key n)

-- The id of the notification's descriptor, or of its associated rule.
abbrev pub notification_code : Data → Option (List ℕ)
notification_code n = option_or (id_at (codes "descriptor") n) (id_at (codes "associatedRule") n)

abbrev pub notification_parts : Data → MessageParts
notification_parts n = record {
  message = unwrap_or (message_in None n) [];
  code = notification_code n;
  severity = Error;
  help = None;
  url = None;
}
