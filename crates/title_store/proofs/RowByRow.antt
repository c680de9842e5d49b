-- Rows of lines, read one by one.
use Rattle.std.proofs.Common.{◌≡◌, ℕ, zero, suc, ◌+◌, ◌-◌, ◌<◌, List, [], ◌∷◌, ◌++◌, Result, Ok, Err, refl, sym, ap, ◌∙◌, arith}
use Rattle.form_terms.specs.declared.fault.LineFault.{LineFault}
use Rattle.form_terms.specs.Forms.{Place, Form, followed, give, rows_after}
use Rattle.title_terms.specs.declared.fault.TitleKind.{TitleKind}
use Rattle.title_store.specs.declared.errors.TitleReadError.{TitleReadError}
use Rattle.title_store.specs.declared.errors.TitleReadError.TheVariants as read_errors
use Rattle.title_store.specs.Reads.{IsRefused}

module _ {A : Type 0} (form : List A → Form TitleKind A) where
  abbrev Rows : Type 0
  Rows = Result (List A × Place) (LineFault TitleKind)

  rows_step : (past : List A) (more : ℕ) (at after : Place) (x : A) → form past at ≡ Ok (x, after) → rows_after past (suc more) form at ≡ rows_after (past ++ x ∷ []) more form after
  unfolding rows_after followed
  rows_step past more at after x is = rw is refl

  rows_stop : (past : List A) (more : ℕ) (at : Place) (e : LineFault TitleKind) → form past at ≡ Err e → rows_after past (suc more) form at ≡ Err e
  unfolding rows_after followed
  rows_stop past more at e is = rw is refl

  rows_none : (past : List A) (at : Place) → rows_after past zero form at ≡ Ok (past, at)
  unfolding rows_after give
  rows_none past at = refl

  pub row_taken : (past : List A) (i count : ℕ) (at after : Place) (x : A) (whole : Rows) → i < count → form past at ≡ Ok (x, after) → rows_after past (count - i) form at ≡ whole
      → rows_after (past ++ x ∷ []) (count - (i + 1)) form after ≡ whole
  row_taken past i count at after x whole lt is all =
      let left : count - i ≡ suc (count - (i + 1)) = omega (arith, lt) in
      sym (rows_step past (count - (i + 1)) at after x is) ∙ ap (λ (n : ℕ). rows_after past n form at) (sym left) ∙ all

  pub row_refused : (past : List A) (i count : ℕ) (at : Place) (e : LineFault TitleKind) (whole : Rows) → i < count → form past at ≡ Err e → rows_after past (count - i) form at ≡ whole → whole ≡ Err e
  row_refused past i count at e whole lt is all =
      let left : count - i ≡ suc (count - (i + 1)) = omega (arith, lt) in
      sym all ∙ ap (λ (n : ℕ). rows_after past n form at) left ∙ rows_stop past (count - (i + 1)) at e is

  pub row_unread : (past : List A) (i count : ℕ) (at : Place) (e : TitleReadError) (whole : Rows) → i < count → IsRefused e (form past at) → rows_after past (count - i) form at ≡ whole → IsRefused e whole
  row_unread past i count at read_errors.Memory whole lt refused all = tt
  row_unread past i count at (read_errors.NotTitle fault) whole lt refused all = row_refused past i count at fault whole lt refused all

  pub rows_all : (past : List A) (i count : ℕ) (at : Place) (whole : Rows) → i ≡ count → rows_after past (count - i) form at ≡ whole → whole ≡ Ok (past, at)
  rows_all past i count at whole is all =
      let none : count - i ≡ zero = omega (arith, is) in
      sym all ∙ ap (λ (n : ℕ). rows_after past n form at) none ∙ rows_none past at
