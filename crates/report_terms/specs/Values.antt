-- A report as a value of JSON. This project's own.
use Rattle.std.specs.Prelude.{◌<◌, ◌^◌, ◌≡◌, ℕ, List, map, codes, true, All}
use Rattle.serde_json.specs.Data.{Data, unsigned, number, string, array, object, no_members, member}
use Rattle.serde_json.specs.View.{items_of}
use Rattle.text_terms.specs.Names.{is_plain}
use Rattle.desk_terms.specs.declared.findings.Accused.{Accused}
use Rattle.desk_terms.specs.declared.findings.Findings.{Findings}

abbrev pub number_value : ℕ → Data
number_value n = number (unsigned n)

abbrev pub places_value : List ℕ → Data
places_value places = array (items_of (map number_value places))

-- one of the accused, with its keys in ascending order
unfoldable pub accused_value : Accused → Data
accused_value a =
    object (member (codes "name") (string a.name) (member (codes "places") (places_value a.places) (member (codes "serial") (number_value a.serial) no_members)))

-- the whole report
unfoldable pub report_value : Findings → Data
report_value f =
    object (member (codes "accused") (array (items_of (map accused_value f.accused))) (member (codes "bound") (number_value f.bound) (member (codes "readable") (number_value f.readable) no_members)))

-- every accused has a plain name
abbrev pub HasPlainNames : Findings → Type 0
HasPlainNames f = All (λ (a : Accused). is_plain a.name ≡ true) f.accused

-- what can be said of one of the accused in a report
pub record IsAccusation (a : Accused) : Type 0 where
  pub plain : is_plain a.name ≡ true
  pub serial : a.serial < 2 ^ 32
  pub places : All (λ place. place < 2 ^ 16) a.places

-- findings that a report can say: plain names, and numbers that fit
pub record AreReportable (f : Findings) : Type 0 where
  pub readable : f.readable < 2 ^ 32
  pub bound : f.bound < 2 ^ 32
  pub accused : All IsAccusation f.accused
