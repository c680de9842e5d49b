-- What the readers of lines find, and which answer a reading gives. Want of memory is the one answer that is always free.
use Rattle.std.specs.Prelude.{◌≡◌, [], Option, Some, None, Result, Ok, Err}
use Rattle.text_terms.specs.Answers.{RefusesAs, AnswersAs}
use Rattle.form_terms.specs.declared.fault.LineFault.{LineFault}
use Rattle.form_terms.specs.Forms.{Place, Form}
use Rattle.playlist_terms.specs.Playlists.{PlaylistSegment}
use Rattle.title_terms.specs.declared.fault.TitleKind.{TitleKind}
use Rattle.title_terms.specs.Designs.{Design}
use Rattle.title_terms.specs.Titles.{Title}
use Rattle.title_store.specs.Cells.{filled}
use Rattle.title_store.specs.declared.errors.TitleReadError.{TitleReadError}
use Rattle.title_store.specs.declared.errors.TitleReadError.TheVariants as read_errors
use Rattle.title_store.specs.declared.reading.Head.{Head}
use Rattle.title_store.specs.declared.reading.Parts.{Parts}
use Rattle.title_store.specs.declared.lines.SegmentParts.{SegmentParts}

abbrev pub fault_in : TitleReadError → Option (LineFault TitleKind)
fault_in read_errors.Memory = None
fault_in (read_errors.NotTitle fault) = Some fault

-- the refusal is the wanted one, or memory ran out
abbrev pub IsRefused : {A : Type 0} → TitleReadError → Result A (LineFault TitleKind) → Type 0
IsRefused error wanted = RefusesAs (fault_in error) wanted

-- the form finds what was answered, seen so, and leaves off at the new place; or it has the fault that was answered
abbrev pub Reads : {X A : Type 0} → (X → A) → Result X TitleReadError → Place → Place → Form TitleKind A → Type 0
Reads view (Ok x) old new form = form old ≡ Ok (view x, new)
Reads view (Err e) old new form = IsRefused e (form old)

-- the title or the fault that is wanted
abbrev pub ReadsAs : Result Title TitleReadError → Result Title (LineFault TitleKind) → Type 0
ReadsAs result wanted = AnswersAs fault_in result wanted

-- a design whose marks are still to come
abbrev pub head_view : Head → Design
head_view h = record { name = h.name.now; bits = h.bits; dimension = h.dimension; bound = h.bound; prefix = h.prefix.now; suffix = h.suffix.now; marked = [] }

-- a title by the parts that were read
abbrev pub parts_title : Parts → Title
parts_title p = record { design = record (head_view p.head) { marked = p.marks.items }; list = p.list; digests = filled p.table }

-- the segment of a line
abbrev pub parts_view : SegmentParts → PlaylistSegment
parts_view p = record { micros = p.micros; uri = p.uri.now; cut = p.cut }
