-- An ordered map of names and bytes, as a map of blobs.
use Rattle.std.proofs.Common.{Option, Ordering, Less, Equal, Greater, ◌≡◌, ◌∙◌, sym, ap, ap₂, ℕ, Bool, true, false, cond, List, [], ◌∷◌, map, Some, refl, nat_cmp, String, Vec}
use Rattle.std.specs.BTreeMap.{insert_entry, is_at}
use Rattle.std.specs.Cmp.Lexicographic.{slice_cmp, nat_list_cmp_total}
use Rattle.std.specs.FinMap.{IsAntisymmetric, insert, find, same_map, get-insert, get-from_entries, slice_cmp-IsAntisymmetric, nat_cmp-IsAntisymmetric}
use Rattle.std.specs.Map.{lookup}
use Rattle.std.specs.Option.{option_map}
use Rattle.std.specs.Ordering.{eq_by_cmp, is_eq, match_ordering}
use Rattle.std.specs.String.{string_bytes, string_cmp}
use Rattle.shelf_terms.specs.Blobs.{blob_at}
use Rattle.shelf_io.specs.BlobMap.{pair_of, blobs_of}

abbrev order : List ℕ → List ℕ → Ordering
order = slice_cmp nat_cmp

one_key : IsAntisymmetric order
one_key = slice_cmp-IsAntisymmetric nat_cmp-IsAntisymmetric

-- two choices by one test, and two that do not both hold
chosen_twice : {A : Type 0} (b : Bool) (u v w : A) → cond b u w ≡ cond b u (cond b v w)
chosen_twice true u v w = refl
chosen_twice false u v w = refl

swapped : {A : Type 0} (a b : Bool) (u v w : A) → (a ≡ true → b ≡ true → ⊥) → cond a u (cond b v w) ≡ cond b v (cond a u w)
swapped true true u v w apart = absurd (apart refl refl)
swapped true false u v w apart = refl
swapped false b u v w apart = refl

tied : (r : Ordering) → is_eq r ≡ true → r ≡ Equal
tied Less e = cc
tied Equal e = refl
tied Greater e = cc

mapped : {A B : Type 0} (f : A → B) (b : Bool) (x : A) (o : Option A) → option_map f (cond b (Some x) o) ≡ cond b (Some (f x)) (option_map f o)
mapped f true x o = refl
mapped f false x o = refl

-- no text is at two keys in different places of the order
apart : (q k l : List ℕ) (r : Ordering) → order k l ≡ r → is_eq r ≡ false → eq_by_cmp order q l ≡ true → eq_by_cmp order q k ≡ true → ⊥
apart q k l r is differs at_l at_k =
    let first : q ≡ l = one_key q l (tied (order q l) at_l) in
    let second : q ≡ k = one_key q k (tied (order q k) at_k) in
    let same : is_eq (order q q) ≡ false = ap is_eq (ap₂ order second first ∙ is) ∙ differs in
    let here : is_eq (order q q) ≡ true = ap (λ t. is_eq (order q t)) first ∙ at_l in
    cc

abbrev pub bytes_in : {Z : Type 0} → Vec ℕ Z → List ℕ
bytes_in bytes = bytes.items

module _ {Y Z : Type 0} where
  -- what is found in the map is what the blobs have
  found_in : (q : List ℕ) (es : List (String Y × Vec ℕ Z)) → option_map bytes_in (lookup (is_at (λ k. order q (string_bytes k))) es) ≡ find order q (map pair_of es)
  found_in q [] = refl
  found_in q (e ∷ es) =
      mapped bytes_in (is_eq (order q (string_bytes e.0))) e.1 (lookup (is_at (λ k. order q (string_bytes k))) es)
      ∙ ap (cond (is_eq (order q (string_bytes e.0))) (Some e.1.items)) (found_in q es)

  pub found : (q : List ℕ) (es : List (String Y × Vec ℕ Z)) → option_map bytes_in (lookup (is_at (λ k. order q (string_bytes k))) es) ≡ blob_at (blobs_of es) q
  found q es = found_in q es ∙ sym (get-from_entries nat_list_cmp_total (map pair_of es) q)

  find_put : (q : List ℕ) (k : String Y) (v : Vec ℕ Z) (es : List (String Y × Vec ℕ Z))
      → find order q (map pair_of (insert_entry string_cmp es k v)) ≡ cond (eq_by_cmp order q (string_bytes k)) (Some v.items) (find order q (map pair_of es))
  find_put q k v [] = refl
  find_put q k v (e ∷ es) =
      elim (order (string_bytes k) (string_bytes e.0)) as (λ r. order (string_bytes k) (string_bytes e.0) ≡ r
      → find order q (map pair_of (match_ordering r ((k, v) ∷ e ∷ es) ((e.0, v) ∷ es) (e ∷ insert_entry string_cmp es k v)))
      ≡ cond (eq_by_cmp order q (string_bytes k)) (Some v.items) (find order q (map pair_of (e ∷ es)))) [
        | Less ↦ λ is. refl
        | Equal ↦ λ is.
            let same : string_bytes e.0 ≡ string_bytes k = sym (one_key (string_bytes k) (string_bytes e.0) is) in
            ap (λ t. cond (eq_by_cmp order q t) (Some v.items) (find order q (map pair_of es))) same
            ∙ chosen_twice (eq_by_cmp order q (string_bytes k)) (Some v.items) (Some e.1.items) (find order q (map pair_of es))
            ∙ ap (λ t. cond (eq_by_cmp order q (string_bytes k)) (Some v.items) (cond (eq_by_cmp order q t) (Some e.1.items) (find order q (map pair_of es)))) (sym same)
        | Greater ↦ λ is.
            ap (cond (eq_by_cmp order q (string_bytes e.0)) (Some e.1.items)) (find_put q k v es)
            ∙ swapped (eq_by_cmp order q (string_bytes e.0)) (eq_by_cmp order q (string_bytes k)) (Some e.1.items) (Some v.items) (find order q (map pair_of es))
            (apart q (string_bytes k) (string_bytes e.0) Greater is refl)
      ] refl

  -- the blobs once an entry is put in its place
  pub stored : (es : List (String Y × Vec ℕ Z)) (k : String Y) (v : Vec ℕ Z) → blobs_of (insert_entry string_cmp es k v) ≡ insert (blobs_of es) (string_bytes k) v.items
  stored es k v = same_map nat_list_cmp_total one_key _ _ (λ q.
      get-from_entries nat_list_cmp_total (map pair_of (insert_entry string_cmp es k v)) q
      ∙ find_put q k v es
      ∙ ap (cond (eq_by_cmp order q (string_bytes k)) (Some v.items)) (sym (get-from_entries nat_list_cmp_total (map pair_of es) q))
      ∙ sym (get-insert nat_list_cmp_total (blobs_of es) (string_bytes k) v.items q))
