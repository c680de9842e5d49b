use Rattle.std.proofs.Common.{◌≡◌, ◌<◌, ◌+◌, ◌-◌, ◌++◌, ◌∷◌, ℕ, List, [], length, length-append, sym, ap, ◌∙◌, arith}
use Rattle.form_terms.specs.Forms.{rows_after}
use Rattle.playlist_terms.specs.Playlists.{Playlist, PlaylistSegment}
use Rattle.title_terms.specs.TitleText.{segment_form}
use Rattle.title_store.proofs.RowByRow.{row_taken, row_unread, rows_all}
use Rattle.title_store.proofs.reading.read_segments.Goals as goal

pub returns-in-Err-clause-rows : goal.returns-in-Err-clause-rows
returns-in-Err-clause-rows c =
    let whole = rows_after [] c.args.count segment_form c.args.lines.now in
    let lt : c.rows._row < c.args.count = omega (arith, c.rows-test.true) in
    row_unread segment_form c.rows.list.segments c.rows._row c.args.count c.rows.lines c.in-Err.error whole lt (c.in-Err.ensures.found c.rows.list.segments) c.rows.invariant.so_far

pub rows-preserved : goal.rows-preserved
rows-preserved c =
    let whole = rows_after [] c.args.count segment_form c.args.lines.now in
    let lt : c.rows._row < c.args.count = omega (arith, c.rows-test.true) in
    let grown : List PlaylistSegment = c.rows.list.segments ++ c.in-Ok.segment ∷ [] in
    let segments : c.push.new.self.segments ≡ grown = ap (λ (l : Playlist). l.segments) c.in-Ok-push.ensures.added in
    let long : length grown ≡ length c.rows.list.segments + 1 = length-append c.rows.list.segments (c.in-Ok.segment ∷ []) in
    record {
      so_far = ap (λ (past : List PlaylistSegment). rows_after past (c.args.count - (c.rows._row + 1)) segment_form c.segment_row.new.lines) segments
          ∙ row_taken segment_form c.rows.list.segments c.rows._row c.args.count c.rows.lines c.segment_row.new.lines c.in-Ok.segment whole lt (c.in-Ok.ensures.found c.rows.list.segments) c.rows.invariant.so_far;
      others = c.in-Ok-push.ensures.added ∙ ap (λ (l : Playlist). record l { segments = grown }) c.rows.invariant.others ∙ ap (λ (past : List PlaylistSegment). record c.args.list { segments = past }) (sym segments);
      long = ap length segments ∙ long ∙ ap (λ (n : ℕ). n + 1) c.rows.invariant.long;
      counted = omega (arith, c.in-Ok.ensures.counted, c.rows.invariant.counted);
    }

pub returns-clause-rows : goal.returns-clause-rows
returns-clause-rows c =
    let whole = rows_after [] c.args.count segment_form c.args.lines.now in
    let last : c.rows._row ≡ c.args.count = omega (arith, c.rows-test.false, c.rows.auto._row-end) in
    rows_all segment_form c.rows.list.segments c.rows._row c.args.count c.rows.lines whole last c.rows.invariant.so_far
