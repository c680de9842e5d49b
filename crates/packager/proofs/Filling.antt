-- All variants are read, one after the other.
use Rattle.std.proofs.Common.{◌≡◌, ◌∙◌, sym, ap, subst, refl, ℕ, ◌+◌, ◌*◌, ◌<◌, List, [], take, Ok, Err, arith}
use Rattle.std.specs.Prelude.{is_some}
use Rattle.std.specs.List.{list_all}
use Rattle.std.proofs.lemmas.List.{take_all}
use Rattle.std.proofs.lemmas.List.FromFn.{length-range_with_len}
use Rattle.title_terms.specs.Designs.{Design, places, symbols}
use Rattle.title_store.specs.Cells.{filled}
use Rattle.title_store.specs.Builds.{Build}
use Rattle.packaging_terms.specs.Variants.{variants}
use Rattle.outcome_terms.specs.declared.refusal.Refusal.{Refusal}
use Rattle.outcome_terms.specs.Stores.{Follows, gave}
use Rattle.records.specs.Stores.{Store}
use Rattle.outcome_terms.specs.Along.{along}
use Rattle.outcome_terms.specs.TitleCommand.{with_variant}
use Rattle.outcome_terms.proofs.AlongLaws.{along_to, along_fails}
use Rattle.packager.specs.Builds.{so_far, IsBegun, IsSame, Adds, Fills}
use Rattle.packager.proofs.Cells.{cells_of, all_filled, all_full}
use Rattle.packager.proofs.Adding.{variant_at}

pub same_itself : (b : Build) → IsSame b b
same_itself b = record { design = refl; list = refl }

pub same_then : {a b c : Build} → IsSame a b → IsSame b c → IsSame a c
same_then first second = record { design = second.design ∙ first.design; list = second.list ∙ first.list }

pub none_read : (d : Design) (s : Store) → Follows (along (with_variant d) [] []) s s (Ok [])
unfolding along
none_read d s = gave

-- what is read of the variants of a design, up to one of them
abbrev pub Read : Design → ℕ → Store → Store → List (List ℕ) → Type 0
Read d i s t digests = Follows (along (with_variant d) [] (take i (variants d))) s t (Ok digests)

pub read_more : (first old new : Build) (i : ℕ) (s t u : Store) → IsSame first old → i < places first.design * symbols first.design
    → Read first.design i s t (so_far old i) → Adds old new i t u → Read first.design (i + 1) s u (so_far new (i + 1))
read_more first old new i s t u same inside before adds =
    along_to (with_variant first.design) [] (variants first.design) i i (so_far old i) (so_far new (i + 1)) (variant_at first.design i inside) before
    (subst (λ (d : Design). Follows (with_variant d (so_far old i) i) t u (Ok (so_far new (i + 1)))) same.design adds.follows)

pub read_stops : (first old : Build) (i : ℕ) (e : Refusal) (s t u : Store) → IsSame first old → i < places first.design * symbols first.design
    → Read first.design i s t (so_far old i) → Follows (with_variant old.design (so_far old i) i) t u (Err e)
    → Follows (along (with_variant first.design) [] (variants first.design)) s u (Err e)
read_stops first old i e s t u same inside before stopped =
    along_fails (with_variant first.design) [] (variants first.design) i i (so_far old i) e (variant_at first.design i inside) before
    (subst (λ (d : Design). Follows (with_variant d (so_far old i) i) t u (Err e)) same.design stopped)

pub all_read : (first b : Build) (i : ℕ) (s t : Store) → i ≡ places first.design * symbols first.design → IsSame first b → IsBegun b i
    → Read first.design i s t (so_far b i) → Fills first b s t
all_read first b i s t is same begun read =
    let count : ℕ = places first.design * symbols first.design in
    let counts : places b.design * symbols b.design ≡ count = ap (λ (d : Design). places d * symbols d) same.design in
    let none_left : begun.rest ≡ 0 = omega (arith, begun.count, counts, is) in
    let cells : b.cells ≡ cells_of (so_far b i) 0 = begun.cells ∙ ap (cells_of (so_far b i)) none_left in
    let digests : so_far b i ≡ filled b.cells = sym (ap filled cells ∙ all_filled (so_far b i)) in
    let whole : take i (variants first.design) ≡ variants first.design = take_all i (variants first.design) (omega (arith, is, length-range_with_len 0 count)) in
    record {
      follows = subst (λ (ds : List (List ℕ)). Follows (along (with_variant first.design) [] (variants first.design)) s t (Ok ds)) digests
          (subst (λ (xs : List ℕ). Follows (along (with_variant first.design) [] xs) s t (Ok (so_far b i))) whole read);
      full = ap (list_all is_some) cells ∙ all_full (so_far b i);
      same = same;
    }
