use Rattle.std.proofs.Common.{◌∙◌, ap, Some}
use Rattle.std.specs.Option.{option_map}
use Rattle.shelf_io.proofs.BlobMaps.{bytes_in, found}
use Rattle.shelf_io.proofs.blob_map.find.Goals as goal

pub returns-in-Some : goal.returns-in-Some
returns-in-Some c = ap Some c.as_slice.ensures.value ∙ ap (option_map bytes_in) c.in-Some.ensures.value ∙ found c.args.name.now c.args.blobs.now.entries

pub returns-in-None : goal.returns-in-None
returns-in-None c = ap (option_map bytes_in) c.in-None.ensures.value ∙ found c.args.name.now c.args.blobs.now.entries
