use Rattle.std.proofs.Common.{◌∙◌, ap, eqb}
use Rattle.std.specs.List.{before_first, after_first}
use Rattle.playlist_terms.specs.Durations.{micros_of_parts}
use Rattle.m3u8_text.proofs.durations.duration.Goals as goal

pub returns : goal.returns
returns c =
    c.micros.ensures
    ∙ (λ i. micros_of_parts (c.cut_at-2.ensures.front i) (c.cut_at-2.ensures.behind i))
    ∙ ap (λ number. micros_of_parts (before_first (λ b. eqb b 46) number) (after_first (λ b. eqb b 46) number)) c.cut_at.ensures.front
