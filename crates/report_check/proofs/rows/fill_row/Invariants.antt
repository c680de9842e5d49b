use Rattle.std.proofs.Common.{◌≡◌, ℕ, ◌+◌, ◌*◌, ◌<◌, ◌≤◌, get_or}
use Rattle.code_terms.specs.Symbols.{symbol_of}
use Rattle.report_check.proofs.rows.fill_row.Given as goal

abbrev pub invariant-loop-place : goal.invariant-loop-place
invariant-loop-place g l = record {
  front : (p : ℕ) → p < l.place → get_or l.row p 0 ≡ symbol_of g.F.Field.BITS l.code.dimension l.message p;
  products : l.prods ≤ l.fn.prods + l.place * l.code.dimension;
}
