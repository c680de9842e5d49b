use Rattle.std.proofs.Common.{◌++◌, [], ◌∷◌, map, ap, ap₂, ◌∙◌}
use Rattle.std.proofs.lemmas.List.{map_push}
use Rattle.list_decode.specs.Points.{numbers_of}
use Rattle.list_decode.proofs.points.add_point.Goals as goal

pub returns : goal.returns
returns g c =
    ap (map (numbers_of g.F.Field.number)) c.in_ok-push.ensures.items
    ∙ map_push (numbers_of g.F.Field.number) c.args.points.now.items (c.element-x.result, c.element-y.result)
    ∙ ap₂ (λ x y. map (numbers_of g.F.Field.number) c.args.points.now.items ++ (x, y) ∷ []) c.element-x.ensures c.element-y.ensures
