-- What the search has found at a node when it has followed some of the roots of Q(0, y).
use Rattle.std.proofs.Common.{◌≡◌, ◌≢◌, inl, inr, ℕ, zero, suc, ◌+◌, ◌<◌, List, [], ◌∷◌, ◌++◌, map, length, All, AllPairs, Contains, refl, sym, ◌∙◌, ap, subst, arith}
use Rattle.std.proofs.lemmas.Bool.{cases_lt}
use Rattle.std.proofs.lemmas.List.Elements.{All-append, All-map, All-weaker, All-contains, Contains-append_left, Contains-append_right}
use mathlib.Core.Path.{fun_ext}
use Rattle.algebra.specs.Ring.{Ring}
use Rattle.algebra.specs.Series.{IsBelow}
use Rattle.algebra.specs.Lists.{coefficients}
use Rattle.algebra.specs.Bivariate.{Bivariate}
use Rattle.root_terms.specs.YRoots.{IsYRoot, led_by, AreYRootLists}
use Rattle.root_terms.specs.Branches.{IsBranch}
use Rattle.root_terms.proofs.Lists.{Contains-map, AllPairs-map, AllPairs-append}

module _ {F : Type 0} (R : Ring F) where
  cons_is : (c : F) (list : List F) (k : ℕ) → coefficients R (c ∷ list) k ≡ led_by c (coefficients R list) k
  cons_is c list zero = refl
  cons_is c list (suc k) = refl

  -- a list with one more coefficient at the front
  pub coefficients_cons : (c : F) (list : List F) → coefficients R (c ∷ list) ≡ led_by c (coefficients R list)
  coefficients_cons c list = fun_ext (cons_is c list)

  module _ (q : Bivariate F) (k : ℕ) (constants : List F) where
    -- the lists are the y-roots whose constant is one of the first n constants
    pub record AreFound (n : ℕ) (lists : List (List F)) : Type 0 where
      pub only : All (λ list. (length list ≡ k + 1) × IsYRoot R q (coefficients R list)) lists
      pub every : (f : ℕ → F) → IsBelow R (k + 1) f → IsYRoot R q f → (j : ℕ) → j < n → coefficients R constants j ≡ f 0
          → (list : List F) × Contains lists list × ((i : ℕ) → coefficients R list i ≡ f i)
      pub led : All (λ list. (j : ℕ) × (j < n) × (coefficients R list 0 ≡ coefficients R constants j)) lists
      pub apart : AllPairs (λ earlier later. earlier ≢ later) lists

    pub none_found : AreFound 0 []
    none_found = record {
      only = λ i d l. absurd (omega arith);
      every = λ f b h j l e. absurd (omega arith);
      led = λ i d l. absurd (omega arith);
      apart = λ i j d l m. absurd (omega arith);
    }

    -- one branch more
    module _ (n : ℕ) (lists tails : List (List F)) (branch : Bivariate F) (so_far : AreFound n lists) (is : IsBranch R q (coefficients R constants n) branch)
        (below : AreYRootLists R branch k tails) (new : (j : ℕ) → j < n → coefficients R constants j ≢ coefficients R constants n) where
      c : F
      c = coefficients R constants n

      more : List (List F)
      more = map (λ tail. coefficients R constants n ∷ tail) tails

      front_only : All (λ list. (length list ≡ k + 1) × IsYRoot R q (coefficients R list)) more
      unfolding more
      front_only =
          All-map (λ list. (length list ≡ k + 1) × IsYRoot R q (coefficients R list)) (λ tail. coefficients R constants n ∷ tail) tails
          (All-weaker (λ tail. (length tail ≡ k) × IsYRoot R branch (coefficients R tail))
          (λ tail. (length (coefficients R constants n ∷ tail) ≡ k + 1) × IsYRoot R q (coefficients R (coefficients R constants n ∷ tail)))
          (λ tail h. let len : length tail ≡ k = h.0 in (
            omega arith,
            subst (IsYRoot R q) (sym (coefficients_cons (coefficients R constants n) tail)) (is.below (coefficients R tail) h.1),
          )) tails below.only)

      front_led : All (λ list. (j : ℕ) × (j < n + 1) × (coefficients R list 0 ≡ coefficients R constants j)) more
      unfolding more
      front_led =
          All-map (λ list. (j : ℕ) × (j < n + 1) × (coefficients R list 0 ≡ coefficients R constants j)) (λ tail. coefficients R constants n ∷ tail) tails
          (λ i d l. (n, omega arith, refl))

      front_is : (list : List F) → Contains more list → coefficients R list 0 ≡ coefficients R constants n
      unfolding more
      front_is list h = All-contains (λ t. coefficients R t 0 ≡ coefficients R constants n) (map (λ tail. coefficients R constants n ∷ tail) tails) list
          (All-map (λ t. coefficients R t 0 ≡ coefficients R constants n) (λ tail. coefficients R constants n ∷ tail) tails (λ i d l. refl)) h

      tail_same : (xs ys : List F) → coefficients R constants n ∷ xs ≡ coefficients R constants n ∷ ys → xs ≡ ys
      tail_same xs ys e = cc

      found_here : (f : ℕ → F) → IsBelow R (k + 1) f → IsYRoot R q f → coefficients R constants n ≡ f 0
          → (list : List F) × Contains more list × ((i : ℕ) → coefficients R list i ≡ f i)
      unfolding more
      found_here f b h e =
          let found = below.every (λ i. f (suc i)) (λ i l. b (suc i) (omega arith)) (is.above f h e) in (
            coefficients R constants n ∷ found.0,
            Contains-map (λ tail. coefficients R constants n ∷ tail) tails found.0 found.1,
            same found.0 found.2,
          )
        where
          same : (tail : List F) → ((i : ℕ) → coefficients R tail i ≡ f (suc i)) → (i : ℕ) → coefficients R (coefficients R constants n ∷ tail) i ≡ f i
          same tail g zero = e
          same tail g (suc i) = g i

      pub more_found : AreFound (n + 1) (lists ++ map (λ tail. coefficients R constants n ∷ tail) tails)
      unfolding more
      more_found = record {
        only = All-append (λ list. (length list ≡ k + 1) × IsYRoot R q (coefficients R list)) lists more so_far.only front_only;
        every = λ f b h j l e. elim (cases_lt j n) [
          | inl m ↦ let old = so_far.every f b h j m e in (old.0, Contains-append_left lists more old.0 old.1, old.2)
          | inr m ↦
              let last : n ≡ j = omega arith in
              let here = found_here f b h (ap (coefficients R constants) last ∙ e) in
              (here.0, Contains-append_right lists more here.0 here.1, here.2)
        ];
        led =
            All-append (λ list. (j : ℕ) × (j < n + 1) × (coefficients R list 0 ≡ coefficients R constants j)) lists more
            (All-weaker (λ list. (j : ℕ) × (j < n) × (coefficients R list 0 ≡ coefficients R constants j))
            (λ list. (j : ℕ) × (j < n + 1) × (coefficients R list 0 ≡ coefficients R constants j)) (λ list h. let l : h.0 < n = h.1 in (h.0, omega arith, h.2)) lists so_far.led)
            front_led;
        apart =
            AllPairs-append (λ earlier later. earlier ≢ later) lists more so_far.apart
            (AllPairs-map (λ tail. coefficients R constants n ∷ tail) tail_same tails below.apart)
            (λ x y in_lists in_more e.
            let old = All-contains (λ list. (j : ℕ) × (j < n) × (coefficients R list 0 ≡ coefficients R constants j)) lists x so_far.led in_lists in
            new old.0 old.1 (sym old.2 ∙ ap (λ t. coefficients R t 0) e ∙ front_is y in_more));
      }

    -- when all constants have been followed
    pub all_found : (lists : List (List F)) → ((f : ℕ → F) → IsYRoot R q f → (j : ℕ) × (j < length constants) × (coefficients R constants j ≡ f 0))
        → AreFound (length constants) lists → AreYRootLists R q (k + 1) lists
    all_found lists constant all = record {
      only = all.only;
      every = λ f b h. let first = constant f h in all.every f b h first.0 first.1 first.2;
      apart = all.apart;
    }
