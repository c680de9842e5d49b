use Rattle.std.proofs.Common.{◌≡◌, ℕ, subst, sym, arith}
use Rattle.gf2m.specs.Tables.{AreLogarithms}
use Rattle.gf2m.specs.declared.tables.TheConstants.{LOGARITHMS_4, LOGARITHMS_5, LOGARITHMS_6, LOGARITHMS_7, LOGARITHMS_8}
use Rattle.gf2m.proofs.Written.{logarithms_4, logarithms_5, logarithms_6, logarithms_7, logarithms_8}
use Rattle.gf2m.proofs.arithmetic.logarithms.Goals as goal

pub returns-in-4 : goal.returns-in-4
returns-in-4 g c = subst (λ (m : ℕ). AreLogarithms m LOGARITHMS_4) (sym c.in-4.is) logarithms_4

pub returns-in-5 : goal.returns-in-5
returns-in-5 g c = subst (λ (m : ℕ). AreLogarithms m LOGARITHMS_5) (sym c.in-5.is) logarithms_5

pub returns-in-6 : goal.returns-in-6
returns-in-6 g c = subst (λ (m : ℕ). AreLogarithms m LOGARITHMS_6) (sym c.in-6.is) logarithms_6

pub returns-in-7 : goal.returns-in-7
returns-in-7 g c = subst (λ (m : ℕ). AreLogarithms m LOGARITHMS_7) (sym c.in-7.is) logarithms_7

pub returns-in_default : goal.returns-in_default
returns-in_default g c = let e : 8 ≡ g.row.M = omega arith in subst (λ (m : ℕ). AreLogarithms m LOGARITHMS_8) e logarithms_8
