use Rattle.std.proofs.Common.{◌≡◌, ◌∙◌, Ok, ap, subst}
use Rattle.form_terms.specs.Forms.{Place, before}
use Rattle.title_terms.specs.TitleText.{title_form, title_of}
use Rattle.title_store.specs.Reads.{parts_title, IsRefused}
use Rattle.title_store.proofs.ReadTitles.{at_start, was_read, not_read, valid_title, reads_made}
use Rattle.title_store.proofs.reading.title_in.Goals as goal

pub read_parts-requires : goal.read_parts-requires
read_parts-requires c = record { start = ap (λ (at : Place). at.number) c.of-lines.ensures ∙ at_start c.args.bytes.now }

pub title_of_parts-requires-clause-valid : goal.title_of_parts-requires-clause-valid
title_of_parts-requires-clause-valid c =
    let t = parts_title c.in-Ok.parts in
    let after = c.read_parts.new.lines in
    let found : title_form (before 0 c.args.bytes.now) ≡ Ok (t, after) = subst (λ (at : Place). title_form at ≡ Ok (t, after)) c.of-lines.ensures c.in-Ok.ensures.found in
    valid_title c.args.bytes.now t (was_read c.args.bytes.now t after found)

pub returns-in-Ok : goal.returns-in-Ok
returns-in-Ok c =
    let t = parts_title c.in-Ok.parts in
    let after = c.read_parts.new.lines in
    let found : title_form (before 0 c.args.bytes.now) ≡ Ok (t, after) = subst (λ (at : Place). title_form at ≡ Ok (t, after)) c.of-lines.ensures c.in-Ok.ensures.found in
    reads_made c.title_of_parts.result t (title_of c.args.bytes.now) (was_read c.args.bytes.now t after found) c.title_of_parts.ensures.made c.title_of_parts.ensures.memory

pub returns-in-Err : goal.returns-in-Err
returns-in-Err c =
    not_read c.args.bytes.now c.in-Err.error (subst (λ (at : Place). IsRefused c.in-Err.error (title_form at)) c.of-lines.ensures c.in-Err.ensures.found)
