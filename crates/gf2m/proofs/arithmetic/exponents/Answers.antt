use Rattle.std.proofs.Common.{◌≡◌, ℕ, subst, sym, arith}
use Rattle.gf2m.specs.Tables.{ArePowers}
use Rattle.gf2m.specs.declared.tables.TheConstants.{EXPONENTS_4, EXPONENTS_5, EXPONENTS_6, EXPONENTS_7, EXPONENTS_8}
use Rattle.gf2m.proofs.Written.{powers_4, powers_5, powers_6, powers_7, powers_8}
use Rattle.gf2m.proofs.arithmetic.exponents.Goals as goal

pub returns-in-4 : goal.returns-in-4
returns-in-4 g c = subst (λ (m : ℕ). ArePowers m EXPONENTS_4) (sym c.in-4.is) powers_4

pub returns-in-5 : goal.returns-in-5
returns-in-5 g c = subst (λ (m : ℕ). ArePowers m EXPONENTS_5) (sym c.in-5.is) powers_5

pub returns-in-6 : goal.returns-in-6
returns-in-6 g c = subst (λ (m : ℕ). ArePowers m EXPONENTS_6) (sym c.in-6.is) powers_6

pub returns-in-7 : goal.returns-in-7
returns-in-7 g c = subst (λ (m : ℕ). ArePowers m EXPONENTS_7) (sym c.in-7.is) powers_7

pub returns-in_default : goal.returns-in_default
returns-in_default g c = let e : 8 ≡ g.row.M = omega arith in subst (λ (m : ℕ). ArePowers m EXPONENTS_8) e powers_8
