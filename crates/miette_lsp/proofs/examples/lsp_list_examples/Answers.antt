use Rattle.std.proofs.Common.{refl}
use Rattle.bstr.specs.Utf8.{pieces_from}
use Rattle.json.specs.Print.{escape_byte}
use Rattle.percent_encoding.specs.AsciiSet.{should_percent_encode as is_encoded}
use Rattle.percent_encoding.specs.Percent.{percent_encode as encoded, percent_encode_byte as encoded_byte}
use Rattle.std.specs.Fmt.{digits}
use Rattle.std.specs.Str.{chars, is_utf8}
use Rattle.miette_json.specs.rules.Json.{numeral}
use Rattle.miette_lsp.proofs.examples.lsp_list_examples.Goals as goal

pub returns-clause-one : goal.returns-clause-one
unfolding encoded encoded_byte is_encoded numeral digits chars pieces_from escape_byte is_utf8 lib.Utf8.encode
returns-clause-one c = refl

pub returns-clause-related : goal.returns-clause-related
unfolding encoded encoded_byte is_encoded numeral digits chars pieces_from escape_byte is_utf8 lib.Utf8.encode
returns-clause-related c = refl

pub returns-clause-sources : goal.returns-clause-sources
unfolding encoded encoded_byte is_encoded numeral digits escape_byte
returns-clause-sources c = refl
