use Rattle.std.specs.Prelude.{nat_eq}
use Rattle.line_reader.proofs.Cuts.{first_place}
use Rattle.line_reader.proofs.cutting.line_feed.Goals as goal

pub returns : goal.returns
returns c = first_place (λ b. nat_eq b 10) c.args.bytes.now c.memchr.result c.memchr.ensures
