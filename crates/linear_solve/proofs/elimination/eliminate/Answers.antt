use Rattle.std.proofs.Common.{◌≡◌, ◌+◌, ◌-◌, ◌*◌, ◌<◌, ◌≤◌, [], ◌∷◌, ◌++◌, length, map, take, drop, rules, refl, ap, ap₂, subst, sym, ◌∙◌, arith}
use Rattle.std.proofs.lemmas.List.{map-append}
use Rattle.algebra.specs.Lists.{coefficients}
use Rattle.system_terms.specs.Systems.{IsZero}
use Rattle.linear_solve.specs.Tables.{cleared, HaveLength}
use Rattle.linear_solve.specs.declared.pivot.Pivot.{Pivot}
use Rattle.linear_solve.proofs.Products.{one_more, all_steps, eliminated}
use Rattle.linear_solve.proofs.Rows.{written_back}
use Rattle.linear_solve.proofs.Stage.{IsStage, first_stage, longer, last_length, front_even, without_zeros, taken_out}
use Rattle.linear_solve.proofs.Written.{IsWritten, first_written, written_without_zeros, written_taken_out, pivots_rank}
use Rattle.linear_solve.proofs.elimination.eliminate.Goals as goal

pub rows-preserved : goal.rows-preserved
rows-preserved g c =
    let R = g.F.Field.ring in
    let all = map (λ row. row.items) c.args.rows.items in
    let left = map (λ row. row.items) c.pop.new.self.items in
    let stage : IsStage R c.args.columns all (left ++ c.in-Some.row.items ∷ []) c.rows.pivots.items =
    subst (λ t. IsStage R c.args.columns all t c.rows.pivots.items) (ap (map (λ row. row.items)) c.in-Some.ensures.items ∙ map-append (λ row. row.items) c.pop.new.self.items (c.in-Some.row ∷ [])) c.rows.invariant.stage in
    let written : IsWritten R c.args.columns all (left ++ c.in-Some.row.items ∷ []) c.rows.pivots.items =
    subst (λ t. IsWritten R c.args.columns all t c.rows.pivots.items) (ap (map (λ row. row.items)) c.in-Some.ensures.items ∙ map-append (λ row. row.items) c.pop.new.self.items (c.in-Some.row ∷ [])) c.rows.invariant.written in
    let zeros : IsZero R (length c.in-Some.row.items) (coefficients R c.in-Some.row.items) =
    subst (λ t. IsZero R (length t) (coefficients R t)) c.deref.ensures.value (c.in_default-leading.ensures.none refl) in
    let one_less : length c.rows.rows.items ≡ length c.pop.new.self.items + 1 = ap length c.in-Some.ensures.items ∙ longer c.pop.new.self.items c.in-Some.row in
    let most : length c.rows.rows.items ≤ length c.args.rows.items = omega (arith, c.rows.invariant.count) in
    record {
      written = written_without_zeros R c.args.columns all left c.in-Some.row.items c.rows.pivots.items written zeros;
      stage = without_zeros R c.args.columns all left c.in-Some.row.items c.rows.pivots.items stage zeros;
      count = omega (arith, c.rows.invariant.count, one_less);
      products = one_more (length c.args.rows.items) (length c.pop.new.self.items) (length c.rows.rows.items) (1 + (length c.args.rows.items - 1) * (1 + c.args.columns)) c.rows.prods c.rows.prods c.args.prods.now
          one_less most c.rows.invariant.products (omega arith);
    }

pub clear_all-requires-clause-lengths : goal.clear_all-requires-clause-lengths
clear_all-requires-clause-lengths g c =
    let R = g.F.Field.ring in
    let all = map (λ row. row.items) c.args.rows.items in
    let left = map (λ row. row.items) c.pop.new.self.items in
    let stage : IsStage R c.args.columns all (left ++ c.in-Some.row.items ∷ []) c.rows.pivots.items =
    subst (λ t. IsStage R c.args.columns all t c.rows.pivots.items) (ap (map (λ row. row.items)) c.in-Some.ensures.items ∙ map-append (λ row. row.items) c.pop.new.self.items (c.in-Some.row ∷ [])) c.rows.invariant.stage in
    let long : length c.in-Some.row.items ≡ c.args.columns = last_length c.args.columns left c.in-Some.row.items stage.even in
    let same : length c.deref-in-Some-leading-2.result.now ≡ c.args.columns = ap length c.deref-in-Some-leading-2.ensures.value ∙ long in
    subst (λ t. HaveLength t (map (λ row. row.items) c.deref_mut.result.now)) (sym same)
    (subst (λ t. HaveLength c.args.columns (map (λ row. row.items) t)) (sym c.deref_mut.ensures.value) (front_even c.args.columns left c.in-Some.row.items stage.even))

pub returns-in_err-push-clause-products : goal.returns-in_err-push-clause-products
returns-in_err-push-clause-products g c =
    let one_less : length c.rows.rows.items ≡ length c.pop.new.self.items + 1 = ap length c.in-Some.ensures.items ∙ longer c.pop.new.self.items c.in-Some.row in
    let most : length c.rows.rows.items ≤ length c.args.rows.items = omega (arith, c.rows.invariant.count) in
    let R = g.F.Field.ring in
    let all = map (λ row. row.items) c.args.rows.items in
    let left = map (λ row. row.items) c.pop.new.self.items in
    let stage : IsStage R c.args.columns all (left ++ c.in-Some.row.items ∷ []) c.rows.pivots.items =
    subst (λ t. IsStage R c.args.columns all t c.rows.pivots.items) (ap (map (λ row. row.items)) c.in-Some.ensures.items ∙ map-append (λ row. row.items) c.pop.new.self.items (c.in-Some.row ∷ [])) c.rows.invariant.stage in
    let long : length c.in-Some.row.items ≡ c.args.columns = last_length c.args.columns left c.in-Some.row.items stage.even in
    let wide : length c.deref-in-Some-leading-2.result.now ≡ c.args.columns = ap length c.deref-in-Some-leading-2.ensures.value ∙ long in
    all_steps (length c.args.rows.items) (length c.pop.new.self.items) (1 + (length c.args.rows.items - 1) * (1 + c.args.columns)) c.clear_all.new.prods c.args.prods.now
    (eliminated (length c.args.rows.items) (length c.pop.new.self.items) (length c.rows.rows.items) c.args.columns (length c.deref_mut.result.now) (length c.deref-in-Some-leading-2.result.now)
    c.rows.prods c.inverse_at-inverse.new.prods c.clear_all.new.prods c.args.prods.now one_less most c.rows.invariant.products c.inverse_at-inverse.ensures.products (ap length c.deref_mut.ensures.value) wide c.clear_all.ensures.products)

pub rows-preserved-in-Continue-branch-2 : goal.rows-preserved-in-Continue-branch-2
rows-preserved-in-Continue-branch-2 g c =
    let R = g.F.Field.ring in
    let all = map (λ row. row.items) c.args.rows.items in
    let left = map (λ row. row.items) c.pop.new.self.items in
    let stage : IsStage R c.args.columns all (left ++ c.in-Some.row.items ∷ []) c.rows.pivots.items =
    subst (λ t. IsStage R c.args.columns all t c.rows.pivots.items) (ap (map (λ row. row.items)) c.in-Some.ensures.items ∙ map-append (λ row. row.items) c.pop.new.self.items (c.in-Some.row ∷ [])) c.rows.invariant.stage in
    let written_old : IsWritten R c.args.columns all (left ++ c.in-Some.row.items ∷ []) c.rows.pivots.items =
    subst (λ t. IsWritten R c.args.columns all t c.rows.pivots.items) (ap (map (λ row. row.items)) c.in-Some.ensures.items ∙ map-append (λ row. row.items) c.pop.new.self.items (c.in-Some.row ∷ [])) c.rows.invariant.written in
    let p : Pivot g.row.F.Denot = record { row = c.in-Some.row; column = c.in-Some-leading.column; inverse = c.inverse_at-inverse.result } in
    let long : length c.in-Some.row.items ≡ c.args.columns = last_length c.args.columns left c.in-Some.row.items stage.even in
    let wide : length c.deref-in-Some-leading-2.result.now ≡ c.args.columns = ap length c.deref-in-Some-leading-2.ensures.value ∙ long in
    let written = written_back c.clear_all.new.rows (drop (length c.clear_all.new.rows) c.pop.new.self.items) c.pop.new.self.len
    (omega (arith, c.clear_all.auto.rows, c.deref_mut.ensures.len, ap length c.deref_mut.ensures.value, c.pop.new.self.ok)) in
    let rows : map (cleared R c.in-Some.row.items c.in-Some-leading.column c.inverse_at-inverse.result) left ≡ map (λ row. row.items) (take c.pop.new.self.len (c.clear_all.new.rows ++ drop (length c.clear_all.new.rows) c.pop.new.self.items)) =
    ap₂ (λ s t. map (cleared R s c.in-Some-leading.column c.inverse_at-inverse.result) (map (λ row. row.items) t)) (sym c.deref-in-Some-leading-2.ensures.value) (sym c.deref_mut.ensures.value)
    ∙ sym c.clear_all.ensures.cleared
    ∙ ap (map (λ row. row.items)) (sym written) in
    let inside : c.in-Some-leading.column < length c.in-Some.row.items = subst (λ t. c.in-Some-leading.column < length t) c.deref.ensures.value c.in-Some-leading.ensures.some.0 in
    let unit_is = ap (λ t. R.times (coefficients R t c.in-Some-leading.column) c.inverse_at-inverse.result) (sym c.deref-in-Some-leading.ensures.value) ∙ c.inverse_at-inverse.ensures.inverse in
    let next = taken_out R c.args.columns all left c.in-Some.row.items c.rows.pivots.items p stage refl inside unit_is in
    let next_written = written_taken_out R c.args.columns all left c.in-Some.row.items c.rows.pivots.items p stage.even written_old refl in
    let one_less : length c.rows.rows.items ≡ length c.pop.new.self.items + 1 = ap length c.in-Some.ensures.items ∙ longer c.pop.new.self.items c.in-Some.row in
    let one_pivot : length c.push.new.self.items ≡ length c.rows.pivots.items + 1 = ap length c.in_ok-push.ensures.items ∙ longer c.rows.pivots.items p in
    let kept : length (take c.pop.new.self.len (c.clear_all.new.rows ++ drop (length c.clear_all.new.rows) c.pop.new.self.items)) ≡ length c.pop.new.self.items =
    ap length written ∙ omega (arith, c.clear_all.auto.rows, c.deref_mut.ensures.len, ap length c.deref_mut.ensures.value) in
    let most : length c.rows.rows.items ≤ length c.args.rows.items = omega (arith, c.rows.invariant.count) in
    record {
      written = subst (λ t. IsWritten R c.args.columns all t c.push.new.self.items) rows (subst (λ t. IsWritten R c.args.columns all (map (cleared R c.in-Some.row.items c.in-Some-leading.column c.inverse_at-inverse.result) left) t) (sym c.in_ok-push.ensures.items) next_written);
      stage = subst (λ t. IsStage R c.args.columns all t c.push.new.self.items) rows (subst (λ t. IsStage R c.args.columns all (map (cleared R c.in-Some.row.items c.in-Some-leading.column c.inverse_at-inverse.result) left) t) (sym c.in_ok-push.ensures.items) next);
      count = omega (arith, c.rows.invariant.count, one_less, one_pivot, kept);
      products = subst (λ t. c.clear_all.new.prods ≤ c.args.prods.now + (length c.args.rows.items - t) * (1 + (length c.args.rows.items - 1) * (1 + c.args.columns))) (sym kept) (eliminated (length c.args.rows.items) (length c.pop.new.self.items) (length c.rows.rows.items) c.args.columns (length c.deref_mut.result.now) (length c.deref-in-Some-leading-2.result.now)
          c.rows.prods c.inverse_at-inverse.new.prods c.clear_all.new.prods c.args.prods.now one_less most c.rows.invariant.products c.inverse_at-inverse.ensures.products (ap length c.deref_mut.ensures.value) wide c.clear_all.ensures.products);
    }

pub rows-init : goal.rows-init
rows-init g c =
    let R = g.F.Field.ring in
    let all = map (λ row. row.items) c.args.rows.items in
    record {
      stage = subst (IsStage R c.args.columns all all) (sym c.in_ok-pivots.ensures.items) (first_stage R c.args.columns all c.requires);
      written = subst (IsWritten R c.args.columns all all) (sym c.in_ok-pivots.ensures.items) (first_written R c.args.columns all);
      count = omega (arith, ap length c.in_ok-pivots.ensures.items);
      products = omega arith;
    }

pub returns-clause-rank : goal.returns-clause-rank
returns-clause-rank g c =
    let R = g.F.Field.ring in
    let all = map (λ row. row.items) c.args.rows.items in
    let none_left : c.rows.rows.items ≡ [] = search rules in
    pivots_rank R g.met.F.Field.field c.args.columns all c.rows.pivots.items c.rows.invariant.stage.finished
    (subst (λ t. IsWritten R c.args.columns all (map (λ row. row.items) t) c.rows.pivots.items) none_left c.rows.invariant.written)
