use Rattle.std.proofs.Common.{refl}
use Rattle.bstr.specs.Utf8.{pieces_from}
use Rattle.json.specs.Print.{escape_byte}
use Rattle.percent_encoding.specs.AsciiSet.{should_percent_encode as is_encoded}
use Rattle.percent_encoding.specs.Percent.{percent_decode as decoded, percent_encode as encoded}
use Rattle.percent_encoding.specs.Percent.{percent_encode_byte as encoded_byte}
use Rattle.std.specs.Fmt.{digits}
use Rattle.std.specs.Str.{chars, is_utf8}
use Rattle.std.specs.Str.Lossy.{utf8_lossy as lossy, utf8_valid_len as valid}
use Rattle.miette_json.specs.rules.Json.{numeral}
use Rattle.miette_read_sarif.specs.rules.Uris.{after_front}
use Rattle.miette_read_laws.proofs.log_laws.worked_reports_read_back.Goals as goal

pub returns : goal.returns
unfolding encoded encoded_byte is_encoded decoded lossy valid numeral digits chars pieces_from escape_byte is_utf8
    after_front lib.Utf8.encode
returns c = refl
