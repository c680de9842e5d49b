use Rattle.std.proofs.Common.{◌∙◌, ◌++◌, ◌∷◌, [], ap, ℕ, ◌+◌, ◌*◌, true, sym, subst}
use Rattle.std.specs.Prelude.{slice_set}
use Rattle.copy_match.specs.Readers.{Reader, HasSeen}
use Rattle.copy_match.proofs.Flags.{found_seen, absent_seen}
use Rattle.copy_match.proofs.reader.CopyReader.see.Goals as goal

pub returns-in-Some-clause-seen : goal.returns-in-Some-clause-seen
returns-in-Some-clause-seen c = λ digests seen.
    ap (λ (n : ℕ). slice_set c.self.inside.flags.items (c.in-Some.place * n + c.in-Some.symbol) true) c.symbols.ensures.number
    ∙ found_seen c.self.inside.title.now c.self.invariant.valid digests c.args.digest.now.bytes c.self.inside.flags.items c.in-Some.place c.in-Some.symbol c.in-Some.ensures.found
    (subst (λ (r : Reader). HasSeen r digests) (sym c.self.view_is) seen)

pub returns-in-None-clause-seen : goal.returns-in-None-clause-seen
returns-in-None-clause-seen c = λ digests seen.
    subst (λ (r : Reader). HasSeen r (digests ++ c.args.digest.now.bytes ∷ [])) c.self.view_is
    (absent_seen c.self.inside.title.now c.self.invariant.valid digests c.args.digest.now.bytes c.self.inside.flags.items c.in-None.ensures.found
    (subst (λ (r : Reader). HasSeen r digests) (sym c.self.view_is) seen))
