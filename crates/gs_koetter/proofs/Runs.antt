-- The terms whose weights divided by w give the same stand one after the other, and x moves them all alike.
use Rattle.std.proofs.Common.{◌≡◌, ◌⊎◌, inl, inr, ℕ, zero, suc, ◌+◌, ◌-◌, ◌*◌, ◌/◌, ◌<◌, ◌≤◌, List, min, refl, ◌∙◌, sym, ap, arith}
use Rattle.std.proofs.lemmas.Bool.{cases_lt}
use Rattle.std.proofs.lemmas.Bool.Decides.{nat_tests}
use Rattle.std.proofs.lemmas.Nat.{le-div}
use Rattle.std.proofs.Math.Nat.{div-add-mod, div-eq_of_lt-le, mod-lt, mul-div-le, mul-le-mul_left}
use Rattle.algebra.specs.Lists.{coefficients}
use Rattle.algebra.specs.Ring.{Ring}
use Rattle.decoding_terms.specs.Parameters.{term_count}
use Rattle.decoding_terms.proofs.Terms.{term_count-next}
use Rattle.koetter_terms.specs.Curves.{curve}
use Rattle.koetter_terms.proofs.Places.{counts, place_from, place_next}
use Rattle.term_lists.proofs.Ordered.{place_below}
use Rattle.term_lists.specs.Places.{place}

-- the weights from w q on, below w (q + 1), divided by w
quotient_is : (w q d : ℕ) → w * q ≤ d → d < w * (q + 1) → d / w ≡ q
quotient_is w q d low high = div-eq_of_lt-le w (omega (arith, low)) (omega (arith, high))

module _ (w : ℕ) (some : 1 ≤ w) where
  -- the first weights of those
  some_weights : (q t : ℕ) → t ≤ w → term_count w (w * q + t) ≡ term_count w (w * q) + t * (q + 1)
  some_weights q zero l = let is : w * q + 0 ≡ w * q = omega arith in omega (arith, ap (term_count w) is)
  some_weights q (suc t) l =
      let before = some_weights q t (omega (arith, l)) in
      let next = term_count-next w (w * q + t) some in
      let is : w * q + suc t ≡ w * q + t + 1 = omega arith in
      let same : term_count w (w * q + suc t) ≡ term_count w (w * q + t + 1) = ap (term_count w) is in
      let quotient = quotient_is w q (w * q + t) (omega arith) (omega (arith, l)) in
      omega (arith, before, next, same, quotient)

  pub next_run : (q : ℕ) → term_count w (w * (q + 1)) ≡ term_count w (w * q) + w * (q + 1)
  next_run q =
      let is : w * (q + 1) ≡ w * q + w = omega arith in
      let same : term_count w (w * (q + 1)) ≡ term_count w (w * q + w) = ap (term_count w) is in
      omega (arith, same, some_weights q w (omega arith))

  -- the weight of a term, from where it stands
  weighs_less : (e i j : ℕ) → place w i j < term_count w e → i + w * j < e
  weighs_less e i j l = by_order (cases_lt (i + w * j) e)
    where
      by_order : (i + w * j < e) ⊎ (e ≤ i + w * j) → i + w * j < e
      by_order (inl less) = less
      by_order (inr more) = absurd (omega (arith, place_from w some e i j more, l))

  weighs_more : (e i j : ℕ) → term_count w e ≤ place w i j → e ≤ i + w * j
  weighs_more e i j l = by_order (cases_lt (i + w * j) e)
    where
      by_order : (i + w * j < e) ⊎ (e ≤ i + w * j) → e ≤ i + w * j
      by_order (inl less) = absurd (omega (arith, place_below w e i j some less, l))
      by_order (inr more) = more

  -- a term of run q is moved by q + 1, and one of an earlier run by less
  here_moved : (q i j : ℕ) → term_count w (w * q) ≤ place w i j → place w i j < term_count w (w * (q + 1)) → place w (suc i) j ≡ place w i j + (q + 1)
  here_moved q i j low high =
      let quotient = quotient_is w q (i + w * j) (weighs_more (w * q) i j low) (weighs_less (w * (q + 1)) i j high) in
      omega (arith, place_next w some i j, quotient)

  quotient_below : (q d : ℕ) → d < w * q → d / w < q
  quotient_below q d l = by_order (cases_lt (d / w) q)
    where
      by_order : (d / w < q) ⊎ (q ≤ d / w) → d / w < q
      by_order (inl less) = less
      by_order (inr more) = absurd (omega (arith, mul-le-mul_left w more, mul-div-le d w, l))

  before_moved : (q i j : ℕ) → place w i j < term_count w (w * q) → place w (suc i) j ≤ place w i j + q
  before_moved q i j l =
      let quotient = quotient_below q (i + w * j) (weighs_less (w * q) i j l) in
      omega (arith, place_next w some i j, quotient)

  after_moved : (q i j : ℕ) → term_count w (w * q) ≤ place w i j → place w i j + (q + 1) ≤ place w (suc i) j
  after_moved q i j l =
      let quotient = le-div q (i + w * j) w some (omega (arith, weighs_more (w * q) i j l)) in
      omega (arith, place_next w some i j, quotient)

  -- where a power of y stands
  power_place : (j : ℕ) → place w 0 j ≡ term_count w (w * j) + j
  power_place j = let is : 0 + w * j ≡ w * j = omega arith in omega (arith, ap (term_count w) is)

  -- the runs up to that of a term
  pub runs_weigh : (d : ℕ) → w * (d / w + 1) ≤ d + w
  runs_weigh d = omega (arith, mul-div-le d w)

  pub earlier_runs : (i j q : ℕ) → q < (i + w * j) / w + 1 → term_count w (w * q) ≤ place w i j
  earlier_runs i j q l =
      let most : w * q ≤ w * ((i + w * j) / w) = mul-le-mul_left w (omega (arith, l)) in
      omega (arith, counts w some (w * q) (i + w * j) (omega (arith, most, mul-div-le (i + w * j) w)))

  pub runs_reach : (i j : ℕ) → place w i j < term_count w (w * ((i + w * j) / w + 1))
  runs_reach i j =
      let d : ℕ = i + w * j in
      place_below w (w * (d / w + 1)) i j some (omega (arith, mod-lt d some, div-add-mod d w))

pub inside_more : (from len run count : ℕ) → from ≤ len → count ≡ min run (len - from) → from + count ≤ len
inside_more from len run count l least = grind (arith, nat_tests)

module _ {F : Type 0} (R : Ring F) (w len : ℕ) (source : List F) where
  open R use {nil}

  -- of x times the first coefficients, those of the first q runs stand, or all
  pub record IsMoved (from q : ℕ) (target : List F) : Type 0 where
    pub inside : from ≤ len
    pub most : from ≤ term_count w (w * q)
    pub runs : from < len → from ≡ term_count w (w * q)
    pub done : (i j : ℕ) → place w i j < from → curve R w target (suc i) j ≡ curve R w source i j
    pub past : (k : ℕ) → from + q ≤ k → coefficients R target k ≡ nil
    pub others : (j : ℕ) → curve R w target 0 j ≡ nil

  pub none_moved : (target : List F) → ((k : ℕ) → coefficients R target k ≡ nil) → IsMoved 0 0 target
  none_moved target zeros = record {
    inside = omega arith;
    most = omega arith;
    runs = λ l. let is : w * 0 ≡ 0 = omega arith in sym (ap (term_count w) is);
    done = λ i j l. absurd (omega (arith, l));
    past = λ k l. zeros k;
    others = λ j. zeros (place w 0 j);
  }

  module _ (some : 1 ≤ w) (from q count : ℕ) (old new : List F) (is : IsMoved from q old) (least : count ≡ min (w * (q + 1)) (len - from))
      (each : (i : ℕ) → i < count → coefficients R new (from + q + 1 + i) ≡ coefficients R source (from + i))
      (before : (k : ℕ) → k < from + q + 1 → coefficients R new k ≡ coefficients R old k)
      (after : (k : ℕ) → from + q + 1 + count ≤ k → coefficients R new k ≡ coefficients R old k) where
    most : count ≤ w * (q + 1)
    most = grind (arith, nat_tests)

    left : count ≤ len - from
    left = grind (arith, nat_tests)

    whole : count < len - from → count ≡ w * (q + 1)
    whole l = grind (arith, nat_tests)

    most_more : from + count ≤ term_count w (w * (q + 1))
    most_more = omega (arith, is.most, most, next_run w some q)

    runs_more : from + count < len → from + count ≡ term_count w (w * (q + 1))
    runs_more l = omega (arith, is.runs (omega (arith, l)), whole (omega (arith, l)), next_run w some q)

    done_more : (i j : ℕ) → place w i j < from + count → curve R w new (suc i) j ≡ curve R w source i j
    done_more i j l = by_order (cases_lt (place w i j) from)
      where
        by_order : (place w i j < from) ⊎ (from ≤ place w i j) → curve R w new (suc i) j ≡ curve R w source i j
        by_order (inl less) = before (place w (suc i) j) (omega (arith, less, before_moved w some q i j (omega (arith, less, is.most)))) ∙ is.done i j less
        by_order (inr more) =
            let start = is.runs (omega (arith, l, more, left)) in
            let to = here_moved w some q i j (omega (arith, start, more)) (omega (arith, start, l, most, next_run w some q)) in
            let first : place w (suc i) j ≡ from + q + 1 + (place w i j - from) = omega (arith, to, more) in
            let last : from + (place w i j - from) ≡ place w i j = omega (arith, more) in
            ap (coefficients R new) first ∙ each (place w i j - from) (omega (arith, l, more)) ∙ ap (coefficients R source) last

    others_more : (j : ℕ) → curve R w new 0 j ≡ nil
    others_more j = by_order (cases_lt (place w 0 j) (from + q + 1)) (cases_lt (place w 0 j) (from + q + 1 + count))
      where
        between : from + q + 1 ≤ place w 0 j → place w 0 j < from + q + 1 + count → (j < q + 1) ⊎ (q + 1 ≤ j) → ⊥
        between low high (inl less) =
            let start = is.runs (omega (arith, low, high, left)) in
            omega (arith, low, power_place w some j, start, less, counts w some (w * j) (w * q) (mul-le-mul_left w (omega (arith, less))))
        between low high (inr more) =
            let start = is.runs (omega (arith, low, high, left)) in
            omega (arith, high, power_place w some j, start, more, most, next_run w some q, counts w some (w * (q + 1)) (w * j) (mul-le-mul_left w more))

        by_order : (place w 0 j < from + q + 1) ⊎ (from + q + 1 ≤ place w 0 j) → (place w 0 j < from + q + 1 + count) ⊎ (from + q + 1 + count ≤ place w 0 j) → curve R w new 0 j ≡ nil
        by_order (inl less) y = before (place w 0 j) less ∙ is.others j
        by_order (inr low) (inl high) = absurd (between low high (cases_lt j (q + 1)))
        by_order (inr low) (inr more) = after (place w 0 j) more ∙ is.others j

    pub one_more : IsMoved (from + count) (q + 1) new
    one_more = record {
      inside = omega (arith, left, is.inside);
      most = most_more;
      runs = runs_more;
      done = done_more;
      past = λ k l. after k (omega (arith, l)) ∙ is.past k (omega (arith, l));
      others = others_more;
    }

  module _ (some : 1 ≤ w) (from q : ℕ) (target : List F) (is : IsMoved from q target) (all : len ≤ term_count w (w * q)) where
    at_end : from ≡ len
    at_end = by_order (cases_lt from len)
      where
        by_order : (from < len) ⊎ (len ≤ from) → from ≡ len
        by_order (inl less) = absurd (omega (arith, less, is.runs less, all))
        by_order (inr more) = omega (arith, more, is.inside)

    pub all_moved : (i j : ℕ) → place w i j < len → curve R w target (suc i) j ≡ curve R w source i j
    all_moved i j l = is.done i j (omega (arith, l, at_end))

    pub past_moved : ((p : ℕ) → p < q → term_count w (w * p) < len) → (i j : ℕ) → len ≤ place w i j → curve R w target (suc i) j ≡ nil
    past_moved last i j l = is.past (place w (suc i) j) (far q refl)
      where
        far : (n : ℕ) → q ≡ n → from + q ≤ place w (suc i) j
        far zero e = omega (arith, e, at_end, l, place_next w some i j)
        far (suc p) e = omega (arith, e, at_end, l, after_moved w some p i j (omega (arith, last p (omega (arith, e)), l)))
