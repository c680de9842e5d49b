-- What a design's document is, by what the reader of tables tells.
use Rattle.std.proofs.Common.{◌≡◌, ℕ, Bool, true, false, List, Some, None, Err, refl, ap}
use Rattle.std.specs.Str.{is_utf8, IsUtf8}
use Rattle.std.proofs.lemmas.Str.{is_utf8-from_IsUtf8, IsUtf8-from_is_utf8}
use Rattle.toml.specs.Data.{Members}
use Rattle.toml.specs.Parse.{parse_document}
use Rattle.title_terms.specs.declared.fault.DesignFault.TheVariants.{NotToml}
use Rattle.title_terms.specs.DesignText.{document, design_in, design_of}

pub of_table : (bytes : List ℕ) (table : Members) → IsUtf8 bytes → parse_document bytes ≡ Some table → design_of bytes ≡ design_in (Some table)
unfolding design_of
of_table bytes table utf8 is =
    let said : document bytes ≡ Some table = rw (is_utf8-from_IsUtf8 bytes utf8) is in
    ap design_in said

pub no_table : (bytes : List ℕ) → (IsUtf8 bytes → parse_document bytes ≡ None) → design_of bytes ≡ Err NotToml
unfolding design_of
no_table bytes none = by (is_utf8 bytes) refl
  where
    by : (passes : Bool) → is_utf8 bytes ≡ passes → design_in (document bytes) ≡ Err NotToml
    by true is =
        let said : document bytes ≡ None = rw is (none (IsUtf8-from_is_utf8 bytes is)) in
        ap design_in said
    by false is =
        let said : document bytes ≡ None = rw is refl in
        ap design_in said
