-- Calls that are counted from 1 on, some of which are to fail. This project's own.
use Rattle.std.specs.Prelude.{refl, ℕ, Bool, ◌==◌, List}
use Rattle.std.specs.Coded.{Coded, code_by, coded×, coded_ℕ, coded_list}
use Rattle.std.specs.List.{list_any}
use Rattle.shelf_terms.specs.Counts.{one_more}

pub record Plan : Type 0 where
  -- the numbers of the calls that are to fail
  pub failing : List ℕ
  -- how many calls there were; it stops at 2^64 - 1
  pub made : ℕ

-- by which a proof tells such plans apart
abbrev pub plan_code : Coded Plan
plan_code = code_by (List ℕ × ℕ) (coded× (coded_list coded_ℕ) coded_ℕ) (λ p. (p.failing, p.made)) (λ p. record { failing = p.0; made = p.1 }) (λ _. refl)

abbrev pub fails_next : Plan → Bool
fails_next plan = list_any (λ call. call == one_more plan.made) plan.failing

abbrev pub after_call : Plan → Plan
after_call plan = record { failing = plan.failing; made = one_more plan.made }
