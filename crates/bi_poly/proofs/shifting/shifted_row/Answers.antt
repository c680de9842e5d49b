use Rattle.std.proofs.Common.{◌≡◌, ◌+◌, ◌-◌, ◌*◌, ◌≤◌, ℕ, if◌then◌else◌, List, length, sym, ap, ◌∙◌, arith}
use Rattle.algebra.specs.Binomials.{has_bits}
use Rattle.algebra.specs.Lists.{coefficients, IsListOf}
use Rattle.uni_poly.proofs.Filling.{read_at}
use Rattle.bi_poly.specs.Rows.{cell}
use Rattle.bi_poly.proofs.ShiftedRows.{row_sum, row_begun, row_more, row_products, trimmed_row, trimmed_short}
use Rattle.bi_poly.proofs.shifting.shifted_row.Goals as goal

pub rows-init : goal.rows-init
rows-init g c =
    let R = g.F.Field.ring in
    let rows : List (List g.row.F.Denot) = c.args.rows.now in
    let row : IsListOf R (λ k. cell R rows k c.args.h) c.trimmed.result.now =
    trimmed_row R rows c.args.h c.index-rows-h.result c.trimmed.result.now (omega (arith, c.requires.inside, c.requires.rows)) c.index-rows-h.is c.trimmed.ensures in
    record {
      before = c.in_ok-row.ensures.before;
      from = λ x are k. c.in_ok-row.ensures.from k ∙ row.each k ∙ sym (row_begun R rows x c.args.h k);
      products = λ most past. let more : (c.args.h + 1) * most ≡ c.args.h * most + most = omega arith in omega arith;
    }

pub add_term-requires : goal.add_term-requires
add_term-requires g c =
    let R = g.F.Field.ring in
    let rows : List (List g.row.F.Denot) = c.args.rows.now in
    let row : IsListOf R (λ k. cell R rows k c.rows.j) c.trimmed-in-rows.result.now =
    trimmed_row R rows c.rows.j c.index-rows-j.result c.trimmed-in-rows.result.now (omega (arith, c.requires.rows)) c.index-rows-j.is c.trimmed-in-rows.ensures in
    let short : length c.trimmed-in-rows.result.now ≤ 65536 = trimmed_short R rows c.rows.j 65536 c.trimmed-in-rows.result.now row c.requires.limit in
    omega (arith, c.requires.inside, c.requires.low)

pub returns-in_err-add_term-clause-products : goal.returns-in_err-add_term-clause-products
returns-in_err-add_term-clause-products g c most past =
    let R = g.F.Field.ring in
    let rows : List (List g.row.F.Denot) = c.args.rows.now in
    let row : IsListOf R (λ k. cell R rows k c.rows.j) c.trimmed-in-rows.result.now =
    trimmed_row R rows c.rows.j c.index-rows-j.result c.trimmed-in-rows.result.now (omega (arith, c.requires.rows)) c.index-rows-j.is c.trimmed-in-rows.ensures in
    let short : length c.trimmed-in-rows.result.now ≤ most = trimmed_short R rows c.rows.j most c.trimmed-in-rows.result.now row past in
    let more : (c.rows.j + 1) * most ≡ c.rows.j * most + most = omega arith in
    row_products c.add_term.new.prods c.args.prods.now (c.rows.j + 1) (length c.args.powers.now) most
    (omega (arith, c.add_term.ensures.products, c.rows.invariant.products most past)) (omega arith) (omega arith)

pub rows-preserved : goal.rows-preserved
rows-preserved g c =
    let R = g.F.Field.ring in
    let rows : List (List g.row.F.Denot) = c.args.rows.now in
    let powers : List g.row.F.Denot = c.args.powers.now in
    let h : ℕ = c.args.h in
    let j : ℕ = c.rows.j in
    let list : List g.row.F.Denot = c.trimmed-in-rows.result.now in
    let row : IsListOf R (λ k. cell R rows k j) list =
    trimmed_row R rows j c.index-rows-j.result list (omega (arith, c.requires.rows)) c.index-rows-j.is c.trimmed-in-rows.ensures in
    let power : c.index-powers-j.result ≡ coefficients R powers (j - h) = read_at R powers (j - h) c.index-powers-j.result (omega arith) c.index-powers-j.is in
    record {
      before = λ k l. c.add_term.ensures.before k l ∙ c.rows.invariant.before k l;
      from = λ x are k.
          c.in_ok-add_term.ensures.from k
          ∙ ap (λ t. R.plus t (if has_bits j h then R.times c.index-powers-j.result (coefficients R list k) else R.nil)) (c.rows.invariant.from x are k)
          ∙ row_more R rows powers x c.index-powers-j.result (coefficients R list k) h j k are (omega arith) power (row.each k);
      products = λ most past.
          let short : length list ≤ most = trimmed_short R rows j most list row past in
          let more : (c.rows.j + 1) * most ≡ c.rows.j * most + most = omega arith in
          omega (arith, c.add_term.ensures.products, c.rows.invariant.products most past);
    }

pub returns-clause-from : goal.returns-clause-from
returns-clause-from g c x are k =
    let R = g.F.Field.ring in
    let end : c.rows.j ≡ length c.args.powers.now = omega (arith, c.requires.inside) in
    c.rows.invariant.from x are k ∙ ap (λ n. row_sum R c.args.rows.now n x c.args.h k) end

pub returns-clause-products : goal.returns-clause-products
returns-clause-products g c most past =
    row_products c.rows.prods c.args.prods.now c.rows.j (length c.args.powers.now) most (c.rows.invariant.products most past) (omega (arith, c.requires.inside)) (omega (arith, c.requires.inside))
