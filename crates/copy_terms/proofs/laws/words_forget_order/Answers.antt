use Rattle.std.proofs.Common.{◌≡◌, ap, ℕ, Bool, false, List, map}
use Rattle.std.specs.Prelude.{filter}
use Rattle.std.specs.List.{list_any, range_with_len}
use Rattle.std.specs.Option.{option_map_or}
use Rattle.std.specs.Str.{bytes_eq}
use Rattle.title_terms.specs.Designs.{places, symbols}
use Rattle.title_terms.specs.Titles.{digest_at}
use Rattle.copy_terms.specs.Copies.{only, word_of_copy}
use Rattle.copy_terms.proofs.laws.words_forget_order.Goals as goal

pub returns : goal.returns
unfolding word_of_copy
returns c =
    λ t first second same.
    let tests : (let f : List ℕ → Bool = λ digest. list_any (bytes_eq digest) first in f) ≡ (λ digest. list_any (bytes_eq digest) second) = λ i digest. same digest i in
    ap (λ (test : List ℕ → Bool). map (λ (place : ℕ). only (filter (λ (symbol : ℕ). option_map_or test (digest_at t place symbol) false) (range_with_len 0 (symbols t.design)))) (range_with_len 0 (places t.design))) tests
