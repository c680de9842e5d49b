use Rattle.std.proofs.Common.{subst}
use Rattle.title_terms.proofs.Texts.{written_is_read}
use Rattle.title_store.specs.Reads.{ReadsAs}
use Rattle.title_store.proofs.ReadTitles.{is_text}
use Rattle.title_store.proofs.title.Title.read.Goals as goal

pub returns-clause-found : goal.returns-clause-found
returns-clause-found c = is_text c.args.bytes.now c.title_in.result c.title_in.ensures

pub returns-clause-every : goal.returns-clause-every
returns-clause-every c = λ t valid is. subst (ReadsAs c.title_in.result) (written_is_read c.args.bytes.now t valid is) c.title_in.ensures
