use Rattle.std.proofs.Common.{◌+◌, ◌<◌, length, set, get_or, ◌∙◌, sym, ap, subst, arith, rules}
use Rattle.std.proofs.lemmas.List.{get_or_default, length-set}
use Rattle.term_lists.specs.Places.{exponents_at}
use Rattle.gs_koetter.proofs.Laying.{IsLaidOut, cell_at, cell_inside, few_columns, more_laid}
use Rattle.gs_koetter.proofs.derivatives.lay_out.Goals as goal

pub bounds-table-cells : goal.bounds-table-cells
bounds-table-cells g c =
    let frame = c.args.frame.now in
    let m = frame.terms in
    let term = exponents_at m.terms.items c.terms.k in
    let at = cell_at m.w m.e frame.width c.terms.k (get_or c.as_slice-cells.result.now c.terms.k 0) m.terms.items frame.cells.items m.terms_are frame.placed (omega (arith, c.terms-test.true, c.requires.few))
    (ap (λ t. get_or t c.terms.k 0) c.as_slice-cells.ensures.value) in
    let y = few_columns m.w m.e frame.width term.x term.y at.1 frame.all_powers in
    let inside = cell_inside m.e frame.width term.x term.y (omega (arith, at.1)) y in
    omega (arith, inside, c.terms.invariant.count, c.requires.size, at.0)

pub terms-preserved : goal.terms-preserved
terms-preserved g c =
    let R = g.F.Field.ring in
    let frame = c.args.frame.now in
    let m = frame.terms in
    let term = exponents_at m.terms.items c.terms.k in
    let at = cell_at m.w m.e frame.width c.terms.k (get_or c.as_slice-cells.result.now c.terms.k 0) m.terms.items frame.cells.items m.terms_are frame.placed (omega (arith, c.terms-test.true, c.requires.few))
    (ap (λ t. get_or t c.terms.k 0) c.as_slice-cells.ensures.value) in
    let y = few_columns m.w m.e frame.width term.x term.y at.1 frame.all_powers in
    record {
      laid = subst (λ n. IsLaidOut R m.w m.e frame.width c.args.coefs.now (c.terms.k + 1) (set c.terms.table n c.index-coefs-k.result)) (sym at.0)
          (more_laid R m.w m.e frame.width c.args.coefs.now c.terms.table c.terms.k term.x term.y c.index-coefs-k.result m.some_weight at.2 (omega (arith, at.1)) y
          (omega (arith, c.terms.invariant.count, c.requires.size))
          (c.index-coefs-k.is ∙ get_or_default c.args.coefs.now c.terms.k c.index-coefs-k.result R.nil c.terms-test.true) c.terms.invariant.laid);
      count = length-set c.terms.table (get_or c.as_slice-cells.result.now c.terms.k 0) c.index-coefs-k.result ∙ c.terms.invariant.count;
    }

pub offset_bounds-table-cells : goal.offset_bounds-table-cells
offset_bounds-table-cells g c = let inside : get_or c.as_slice-cells.result.now c.terms.k 0 < length c.terms.table = bounds-table-cells g c in search rules
