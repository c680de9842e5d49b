use Rattle.std.proofs.Common.{◌≡◌, ◌<◌, ◌+◌, drop, ℕ, List, Some, None, length, get_or, sym, ap, subst, ◌∙◌, arith}
use Rattle.title_terms.specs.DesignRules.{marks_behind}
use Rattle.designs.specs.Answers.{AreMarks, next_mark}
use Rattle.designs.proofs.Marks.{goes_on_at, stops_at, marks_push}
use Rattle.designs.proofs.judging.judge_marks.Goals as goal

pub returns-in_default-clause-found : goal.returns-in_default-clause-found
returns-in_default-clause-found c =
    let past : List ℕ = c.marks.marks.items in
    let there : c.marks.item-index < length c.args.wanted.now = omega (arith, c.marks-test.true) in
    let next : next_mark past (get_or c.args.wanted.now c.marks.item-index None) ≡ None =
    subst (λ (front : List ℕ). next_mark front (get_or c.args.wanted.now c.marks.item-index None) ≡ None) c.as_slice.ensures.value (sym c.next_mark.ensures ∙ c.in_default.is) in
    let few : length past ≡ c.len-position.result = omega (arith, c.len-position.ensures, c.marks.marks.ok) in
    sym c.marks.invariant.so_far ∙ stops_at past c.args.wanted.now c.marks.item-index c.len-position.result there next few

pub marks-preserved : goal.marks-preserved
marks-preserved c =
    let past : List ℕ = c.marks.marks.items in
    let item = get_or c.args.wanted.now c.marks.item-index None in
    let there : c.marks.item-index < length c.args.wanted.now = omega (arith, c.marks-test.true) in
    let next : next_mark past item ≡ Some c.in-Some.segment =
    subst (λ (front : List ℕ). next_mark front item ≡ Some c.in-Some.segment) c.as_slice.ensures.value (sym c.in-Some.ensures) in
    record {
      so_far = ap (λ (marks : List ℕ). marks_behind marks (drop (c.marks.item-index + 1) c.args.wanted.now)) c.in-Ok.ensures.items ∙ sym (goes_on_at past c.args.wanted.now c.marks.item-index c.in-Some.segment there next) ∙ c.marks.invariant.so_far;
      are = subst AreMarks (sym c.in-Ok.ensures.items) (marks_push past item c.in-Some.segment c.marks.invariant.are next);
    }
