-- Lines as the definitions see them, without places in memory.
use Rattle.playlist_terms.specs.Lines as terms
use Rattle.playlist_terms.specs.MediaLines as media
use Rattle.m3u8_text.specs.declared.class.Line.{Line}
use Rattle.m3u8_text.specs.declared.class.Line.TheVariants as lines
use Rattle.m3u8_text.specs.declared.media_line.MediaLine.{MediaLine}
use Rattle.m3u8_text.specs.declared.media_line.MediaLine.TheVariants as says

abbrev pub line_seen : Line → terms.Line
line_seen lines.NotText = terms.NotText
line_seen lines.Silent = terms.Silent
line_seen (lines.Tag name value) = terms.Tag name.now value.now
line_seen (lines.Uri uri) = terms.Uri uri.now

abbrev pub said : MediaLine → media.MediaLine
said says.NotText = media.NotText
said says.Silent = media.Silent
said (says.Uri uri) = media.Uri uri.now
said says.Start = media.Start
said says.StartTag = media.StartTag
said (says.Version value) = media.Version value
said (says.Target value) = media.Target value
said (says.Sequence value) = media.Sequence value
said (says.Duration value) = media.Duration value
said (says.Kind vod) = media.Kind vod
said says.End = media.End
said says.Cut = media.Cut
said (says.Key absent) = media.Key absent
said says.Outside = media.Outside
