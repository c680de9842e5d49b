use Rattle.std.proofs.Common.{◌∷◌, ◌++◌, ◌+◌, ◌-◌, sym, ap, ◌∙◌, length, take, drop, arith}
use Rattle.std.proofs.lemmas.List.{length-drop, take_all}
use Rattle.m3u8_text.proofs.Texts.{no_feed, first_feed}
use Rattle.m3u8_text.proofs.pieces.cut_feed.Goals as goal

pub returns-in_err-place-clause-parts : goal.returns-in_err-place-clause-parts
returns-in_err-place-clause-parts c = rw c.from_residual.ensures (no_feed c.args.bytes.now (sym c.place_of.ensures ∙ c.in_err-place.was))

pub returns-clause-parts : goal.returns-clause-parts
returns-clause-parts c =
    let bytes = c.args.bytes.now in
    let place = c.in_ok-place.place in
    let fed = first_feed bytes place (sym c.place_of.ensures ∙ c.in_ok-place.was) in
    let behind = sym (take_all (length bytes - (place + 1)) (drop (place + 1) bytes) (simp length-drop (omega arith))) in
    (fed.whole ∙ ap (λ rest. take place bytes ++ (10 ∷ rest)) behind, fed.one)
