use Rattle.std.proofs.Common.{◌∙◌, ap, ap₂}
use Rattle.std.specs.FinMap.{insert}
use Rattle.shelf_io.specs.BlobMap.{blobs_of}
use Rattle.shelf_io.proofs.BlobMaps.{stored}
use Rattle.shelf_io.proofs.blob_map.store.Goals as goal

pub returns-clause-done : goal.returns-clause-done
returns-clause-done c =
    ap blobs_of c.in_ok-_replaced.ensures.entries
    ∙ stored c.args.blobs.now.entries c.in_ok-name.name c.in_ok-bytes.bytes
    ∙ ap₂ (insert (blobs_of c.args.blobs.now.entries)) c.in_ok-name.ensures.ok c.in_ok-bytes.ensures.items
