use Rattle.std.proofs.Common.{ℕ, List, [], Some, ◌∙◌, ap, sym}
use Rattle.std.proofs.lemmas.Option.{slice_get-get_or, slice_get_within, get_or_from_slice_get}
use Rattle.register_terms.specs.Enrolment.{names_of, serial_of}
use Rattle.register_terms.proofs.Serials.{has_serial, own_serial}
use Rattle.register_terms.proofs.laws.names_tell_serials.Goals as goal

pub returns : goal.returns
returns c =
    λ e valid name serial. let names = names_of e.licensees in (
      (λ found. let at = has_serial names name serial found in slice_get-get_or names serial [] at.0 ∙ ap (λ (x : List ℕ). Some x) at.1),
      (λ there. ap (serial_of names) (sym (get_or_from_slice_get names serial name [] there)) ∙ own_serial names serial valid.distinct (slice_get_within names serial name there)),
    )
