-- What decoding finds, by what is in the list.
use Rattle.std.proofs.Common.{◌≡◌, ℕ, ◌*◌, ◌^◌, ◌<◌, true, List, Option, All, Contains, arith}
use Rattle.std.specs.List.Sorted.{IsStrictlyIncreasing}
use Rattle.std.proofs.lemmas.List.Kept.{AllPairs-from_increasing}
use Rattle.decoder_terms.specs.Decoding.{meets_threshold, decoded}
use Rattle.decoder_terms.proofs.Chosen.{chosen}

pub told : (m k c : ℕ) (word : List (Option ℕ)) (messages : List ℕ) → IsStrictlyIncreasing messages
    → All (λ u. (u < 2 ^ (m * k)) × (meets_threshold m k word c u ≡ true)) messages
    → ((u : ℕ) → u < 2 ^ (m * k) → meets_threshold m k word c u ≡ true → Contains messages u) → messages ≡ decoded m k word c
unfolding decoded
told m k c word messages up only every =
    chosen (meets_threshold m k word c) (2 ^ (m * k)) 0 (2 ^ (m * k)) messages (omega arith) (record {
      ascending = AllPairs-from_increasing messages up;
      only = λ i d l. let here = only i d l in (omega arith, here.0, here.1);
      every = λ x from below passes. every x below passes;
    })
