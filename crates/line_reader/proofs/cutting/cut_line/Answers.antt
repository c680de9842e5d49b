use Rattle.std.proofs.Common.{◌∷◌, ◌+◌, ◌-◌, sym, ap, ◌∙◌, length, take, drop, arith}
use Rattle.std.proofs.lemmas.List.{length-drop, take_all}
use Rattle.form_terms.specs.TextLines.{parts_of}
use Rattle.line_reader.proofs.Cuts.{uncut, cut_at}
use Rattle.line_reader.proofs.cutting.cut_line.Goals as goal

pub returns-in_err-end-clause-parts : goal.returns-in_err-end-clause-parts
returns-in_err-end-clause-parts c = rw c.from_residual.ensures (uncut c.args.bytes.now (sym c.line_feed.ensures ∙ c.in_err-end.was))

pub returns-clause-parts : goal.returns-clause-parts
returns-clause-parts c =
    let bytes = c.args.bytes.now in
    let end = c.in_ok-end.end in
    cut_at bytes end (sym c.line_feed.ensures ∙ c.in_ok-end.was) ∙ ap (λ rest. take end bytes ∷ parts_of rest) (sym (take_all (length bytes - (end + 1)) (drop (end + 1) bytes) (simp length-drop (omega arith))))
