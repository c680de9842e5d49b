-- What the bytes of a report say, by what the reader of values tells.
use Rattle.std.proofs.Common.{◌≡◌, ℕ, Bool, true, false, List, Some, None, refl, ap}
use Rattle.std.specs.Prelude.{option_and_then}
use Rattle.std.specs.Str.{is_utf8, IsUtf8}
use Rattle.std.proofs.lemmas.Str.{is_utf8-from_IsUtf8, IsUtf8-from_is_utf8}
use Rattle.serde_json.specs.Data.{Data}
use Rattle.serde_json.specs.Read.{read}
use Rattle.report_terms.specs.Reports.{document, findings_said, report_of}

pub of_value : (bytes : List ℕ) (d : Data) → IsUtf8 bytes → read bytes ≡ Some d → report_of bytes ≡ findings_said d
unfolding report_of
of_value bytes d utf8 is =
    let said : document bytes ≡ Some d = rw (is_utf8-from_IsUtf8 bytes utf8) is in
    ap (option_and_then findings_said) said

pub no_value : (bytes : List ℕ) → (IsUtf8 bytes → read bytes ≡ None) → report_of bytes ≡ None
unfolding report_of
no_value bytes none = by (is_utf8 bytes) refl
  where
    by : (passes : Bool) → is_utf8 bytes ≡ passes → option_and_then findings_said (document bytes) ≡ None
    by true is =
        let said : document bytes ≡ None = rw is (none (IsUtf8-from_is_utf8 bytes is)) in
        ap (option_and_then findings_said) said
    by false is =
        let said : document bytes ≡ None = rw is refl in
        ap (option_and_then findings_said) said
