use Rattle.std.proofs.Common.{◌≡◌, ◌+◌, ◌-◌, ◌*◌, ◌^◌, ◌≤◌}
use Rattle.gs_koetter.proofs.frame.Halvings.of.Given as goal

-- The height is a power of two, which is not far above the rows.
abbrev pub invariant-halvings : goal.invariant-halvings
invariant-halvings l = record {
  height : l.height ≡ 2 ^ l.count;
  span : l.span ≡ 2 ^ l.count * l.width;
  more : l.count + 1 ≤ l.height;
  few : l.count ≤ l.rows;
  low : l.height ≤ 8192;
}

abbrev pub decreases-halvings : goal.decreases-halvings
decreases-halvings l = l.rows - l.height
