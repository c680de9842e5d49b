use Rattle.std.proofs.Common.{◌≡◌, drop, ◌∙◌, ap, arith}
use Rattle.std.proofs.lemmas.List.{drop_at, get_or_append_left, length-take}
use Rattle.decoding_terms.specs.Parameters.{term_count}
use Rattle.term_lists.specs.Places.{place}
use Rattle.term_lists.proofs.Ordered.{place_below}
use Rattle.gs_koetter.proofs.derivatives.pick_front.Goals as goal

pub returns-clause-each : goal.returns-clause-each
returns-clause-each g c u v l =
    let m = c.args.orders.now in
    let n : c.len.result ≡ term_count 1 m.e = omega (arith, c.len.ensures, m.terms_are.count, ap (λ w. term_count w m.e) c.requires.by_one) in
    let below = place_below 1 m.e u v (omega arith) (omega (arith, l)) in
    get_or_append_left c.pick.new.tile (drop c.len.result c.args.list.now) g.F.Field.ring.nil (place 1 u v) (omega (arith, below, n, c.pick.ensures.length, c.requires.room, length-take c.len.result c.args.list.now)) ∙ c.pick.ensures.each u v l

pub returns-clause-rest : goal.returns-clause-rest
returns-clause-rest g c =
    let m = c.args.orders.now in
    let n : c.len.result ≡ term_count 1 m.e = omega (arith, c.len.ensures, m.terms_are.count, ap (λ w. term_count w m.e) c.requires.by_one) in
    drop_at c.pick.new.tile (drop c.len.result c.args.list.now) (term_count 1 m.e) (omega (arith, n, c.pick.ensures.length, c.requires.room, length-take c.len.result c.args.list.now))
    ∙ ap (λ k. drop k c.args.list.now) n
