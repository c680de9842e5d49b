-- What an error line says of each fault behind the status. This project's own.
use Rattle.std.specs.Prelude.{ℕ, List, ◌++◌, codes}
use Rattle.std.specs.Fmt.{decimal}
use Rattle.playlist_terms.specs.declared.fault.PlaylistFault.{PlaylistFault}
use Rattle.playlist_terms.specs.declared.fault.PlaylistFault.TheVariants as playlist
use Rattle.title_terms.specs.declared.fault.Key.{Key}
use Rattle.title_terms.specs.declared.fault.Key.TheVariants as key
use Rattle.title_terms.specs.declared.fault.DesignFault.{DesignFault}
use Rattle.title_terms.specs.declared.fault.DesignFault.TheVariants as design
use Rattle.title_terms.specs.declared.fault.TitleKind.{TitleKind}
use Rattle.title_terms.specs.declared.fault.TitleKind.TheVariants as title

abbrev pub key_text : Key → List ℕ
key_text key.Name = codes "name"
key_text key.M = codes "m"
key_text key.K = codes "k"
key_text key.C = codes "c"
key_text key.Prefix = codes "prefix"
key_text key.Suffix = codes "suffix"
key_text key.Marked = codes "marked"

abbrev pub design_text : DesignFault → List ℕ
design_text design.NotToml = codes "not-toml"
design_text (design.Missing at) = codes "missing " ++ key_text at
design_text (design.WrongType at) = codes "wrong-type " ++ key_text at
design_text design.BadName = codes "bad-name"
design_text design.BadM = codes "bad-m"
design_text design.BadK = codes "bad-k"
design_text design.BadBound = codes "bad-bound"
design_text design.TooMuchWork = codes "too-much-work"
design_text design.BadPrefix = codes "bad-prefix"
design_text design.BadSuffix = codes "bad-suffix"
design_text (design.BadMarked item) = codes "bad-marked " ++ decimal item
design_text design.TooManyPlaces = codes "too-many-places"
design_text design.TooWeak = codes "too-weak"

abbrev pub playlist_text : PlaylistFault → List ℕ
playlist_text playlist.NotM3u = codes "not-m3u"
playlist_text playlist.Utf8 = codes "utf8"
playlist_text playlist.Number = codes "number"
playlist_text playlist.Repeat = codes "repeat"
playlist_text playlist.TwoDurations = codes "two-durations"
playlist_text playlist.NoDuration = codes "no-duration"
playlist_text playlist.NoUri = codes "no-uri"
playlist_text playlist.BadUri = codes "bad-uri"
playlist_text playlist.Encrypted = codes "encrypted"
playlist_text playlist.Unsupported = codes "unsupported"
playlist_text playlist.TooMany = codes "too-many"
playlist_text playlist.NoTarget = codes "no-target"
playlist_text playlist.NoEnd = codes "no-end"

abbrev pub title_text : TitleKind → List ℕ
title_text title.Form = codes "form"
title_text title.Rule = codes "rule"
title_text title.Duplicate = codes "duplicate"

-- two numbers with a space between
abbrev pub pair_text : ℕ → ℕ → List ℕ
pair_text a b = decimal a ++ (codes " " ++ decimal b)
