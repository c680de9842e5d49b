use Rattle.std.proofs.Common.{◌≡◌, [], None}
use Rattle.term_lists.specs.Extended.{IsExtended}
use Rattle.term_lists.specs.Places.{place}
use Rattle.gs_koetter.specs.Results.{IsBegun}
use Rattle.gs_koetter.proofs.koetter.first_curves.Given as goal

-- The first curves stand.
abbrev pub invariant-powers : goal.invariant-powers
invariant-powers g l = record {
  begun : IsExtended (IsBegun g.F.Field.ring l.frame.terms.w l.frame.terms.e l.frame.orders.e) None [] l.j l.curves.items;
  at : l.place ≡ place l.frame.terms.w 0 l.j;
}
